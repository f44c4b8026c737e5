use Rattle.std.proofs.Common.{◌≡◌, ℕ, ◌<◌, List, ◌++◌, length, take, drop, sym, ap, ◌∙◌, subst, take_at}
use Rattle.stage_queues.specs.declared.node_pass.NodePass.{NodePass}
use Rattle.stage_queues.specs.NodePasses.{joined_node}
use Rattle.stage_queues.specs.Passes.{StageAccount, IsPassOf, AreNodePassesOf, pass_at}
use Rattle.stage_queues.proofs.JoinLemmas.{joined_are_of}
use Rattle.stage_queues.proofs.pass.StagePass.join.Goals as goal

pub returns-clause-queues : goal.returns-clause-queues
returns-clause-queues c =
    let nodes = c.args.queues.now.nodes in
    let now = c.join_nodes.new.mine in
    let items = c.self.inside.nodes.items in
    let others = c.other.inside.nodes.items in
    let value = c.deref_mut.ensures.value in
    let value' = c.deref_mut-2.ensures.value in
    let mine = subst (λ (p : StageAccount). IsPassOf c.args.queues.now p) (sym c.self.view_is) c.requires.queues.0 in
    let theirs = subst (λ (p : StageAccount). IsPassOf c.args.queues.now p) (sym c.other.view_is) c.requires.queues.1 in
    let whole : take c.self.inside.nodes.len (now ++ drop (length now) items) ≡ now = take_at now (drop (length now) items) c.self.inside.nodes.len (c.join_nodes.ensures.length ∙ c.deref_mut.ensures.len) in
    let joined : (node : ℕ) → node < length items → pass_at now node ≡ joined_node (pass_at items node) (pass_at others node) = subst (λ (x : List NodePass × List NodePass). (node : ℕ) → node < length x.0 → pass_at now node ≡ joined_node (pass_at x.0 node) (pass_at x.1 node)) (λ i. (value i, value' i)) c.join_nodes.ensures.joined in
    subst (AreNodePassesOf nodes) (sym whole) (joined_are_of nodes items others now mine theirs (c.join_nodes.ensures.length ∙ ap length value) joined)
