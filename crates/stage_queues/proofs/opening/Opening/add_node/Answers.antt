use Rattle.std.proofs.Common.{◌≡◌, ◌+◌, true, [], ◌∷◌, ◌++◌, All, length, vec_len, flat_map, sym, ap, ◌∙◌, subst, arith}
use Rattle.std.proofs.lemmas.List.Elements.{All-push}
use Rattle.std.proofs.lemmas.List.FromFn.{length-map-range_with_len}
use Rattle.queue_passes.specs.Holds.{holds}
use Rattle.request_rule.specs.Accounts.{request_account}
use Rattle.stage_queues.specs.Plan.{AreNumbered}
use Rattle.stage_queues.specs.Opening.{node_passes, session_pass, session_passes, HasRoom}
use Rattle.stage_queues.proofs.OpeningLemmas.{numbered_push, flat_map_push}
use Rattle.stage_queues.proofs.opening.Opening.add_node.Goals as goal

pub stage_passes-requires-clause-roots : goal.stage_passes-requires-clause-roots
stage_passes-requires-clause-roots c =
    let h = c.requires.opening in
    let roots = c.in_ok-queues.ensures.roots in
    let count : vec_len c.args.self.now.sessions ≡ c.args.sizes.now.senders = (let l = ap length h.sessions ∙ length-map-range_with_len (session_pass c.args.self.now.queues.items) 0 c.args.sizes.now.senders in omega (arith, l, c.args.self.now.sessions.ok)) in
    record { requests = c.in_ok-reach.ensures.root ∙ ap (λ n. holds c.in_ok-queues.queues.requests.id (request_account true n [] [])) count; batches = roots.batches; settled = roots.settled }

pub returns-clause-opening : goal.returns-clause-opening
returns-clause-opening c =
    let h = c.requires.opening in
    let sizes = c.args.sizes.now in
    let node = c.in_ok-queues.queues in
    let old = c.args.self.now.queues.items in
    let pushed : c.push.new.self.items ≡ old ++ node ∷ [] = c.in_ok-push.ensures.items in
    let count : vec_len c.args.self.now.sessions ≡ sizes.senders = (let l = ap length h.sessions ∙ length-map-range_with_len (session_pass old) 0 sizes.senders in omega (arith, l, c.args.self.now.sessions.ok)) in
    let passes = node_passes sizes.nodes sizes.workers sizes.senders in
    let reached = c.in_ok-reach.ensures.sessions old (h.sessions ∙ ap (λ n. session_passes n old) (sym count)) in record {
      numbered = subst AreNumbered (sym pushed) (numbered_push old node h.numbered (omega (arith, c.in_ok-queues.ensures.node, c.len-node.ensures, c.args.self.now.queues.ok)));
      room = subst (All (HasRoom (sizes.workers + 2))) (sym pushed) (All-push (HasRoom (sizes.workers + 2)) old node h.room c.in_ok-queues.ensures.room);
      passes = c.in_ok-append.ensures.items ∙ (λ i. h.passes i ++ c.in_ok-passes.ensures i) ∙ sym (flat_map_push passes old node) ∙ ap (flat_map passes) (sym pushed);
      sessions = reached ∙ ap (λ n. session_passes n (old ++ node ∷ [])) count ∙ ap (session_passes sizes.senders) (sym pushed);
    }
