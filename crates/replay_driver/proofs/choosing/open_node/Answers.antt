use Rattle.std.proofs.Common.{ℕ, Some, sym, ap, ◌∙◌}
use Rattle.history_book.specs.declared.item.Actor.TheVariants.{Node}
use Rattle.machine.specs.declared.event.Event.TheVariants.{Accept}
use Rattle.script_data.specs.declared.line.Verb.TheVariants as verb
use Rattle.command_semantics.specs.declared.point.Point.TheVariants.{Opens}
use Rattle.replay_driver.proofs.Chosen.{line_is}
use Rattle.replay_driver.proofs.choosing.open_node.Goals as goal

pub made-requires : goal.made-requires
made-requires c =
    c.requires.can.steady (Accept c.args.node c.in-Accept.session c.reading_at-reading.result)
    (line_is c.args.play.now c.args.leads.now c.args.line.now Opens (Node c.args.node) (verb.Accept c.in-Accept.session) c.requires.actor c.in-Accept.is
    ∙ ap (λ (reading : ℕ). Some (Accept c.args.node c.in-Accept.session reading)) (sym c.reading_at-reading.ensures))
