use Rattle.std.proofs.Common.{ℕ, Some, sym, ap, ◌∙◌}
use Rattle.history_book.specs.declared.item.Actor.TheVariants.{Session}
use Rattle.machine.specs.declared.event.Event.TheVariants as event
use Rattle.script_data.specs.declared.line.Verb.TheVariants as verb
use Rattle.command_semantics.specs.declared.point.Point.TheVariants.{Opens}
use Rattle.command_semantics.specs.Next.{asked_node}
use Rattle.replay_driver.proofs.Chosen.{chosen}
use Rattle.replay_driver.proofs.choosing.open_session.Goals as goal

pub returns-in-Begin : goal.returns-in-Begin
returns-in-Begin c =
    chosen c.args.play.now _ c.args.leads.now c.args.line.now Opens (Session c.args.session) (verb.Begin c.in-Begin.target) (event.AskBegin c.args.session c.node_of-node.result) c.made.result c.requires.actor c.in-Begin.is
    (ap (λ (node : ℕ). Some (event.AskBegin c.args.session node)) (sym (c.node_of-node.ensures ∙ ap (λ (master : ℕ). asked_node master c.in-Begin.target) c.master.ensures)))
    c.made.ensures

pub returns-in-Commit : goal.returns-in-Commit
returns-in-Commit c =
    chosen c.args.play.now _ c.args.leads.now c.args.line.now Opens (Session c.args.session) (verb.Commit c.in-Commit.target) (event.AskCommit c.args.session c.node_of-node-in-Commit.result) c.made-in-Commit.result c.requires.actor c.in-Commit.is
    (ap (λ (node : ℕ). Some (event.AskCommit c.args.session node)) (sym (c.node_of-node-in-Commit.ensures ∙ ap (λ (master : ℕ). asked_node master c.in-Commit.target) c.master-in-Commit.ensures)))
    c.made-in-Commit.ensures
