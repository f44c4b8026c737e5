use Rattle.std.proofs.Common.{[], sym, ◌∙◌}
use Rattle.command_semantics.specs.Clocks.{clocks}
use Rattle.split_driver.proofs.LaterEvents.{is_later}
use Rattle.split_driver.proofs.choosing.line_event.Goals as goal

pub returns-in-Some : goal.returns-in-Some
returns-in-Some c =
    is_later (clocks 0 [] 0) c.args.line.now.actor c.args.line.now.verb c.args.point c.args.view.now c.in-Some.event c.later_event.result c.requires.may (sym c.in-Some.is ∙ c.next_event.ensures) c.later_event.ensures
