use Rattle.std.specs.Prelude.{◌-◌, length}
use Rattle.command_semantics.specs.Clocks.{clocks}
use Rattle.turn_rules.proofs.PassLines.{PassesOn}
use Rattle.turn_rules.proofs.passing.pass.Given as goal

abbrev pub invariant-loop-seat : goal.invariant-loop-seat
invariant-loop-seat l = PassesOn (clocks l.base l.leads l.master) l.view l.lines l.fn.seat l.seat

abbrev pub decreases-loop-seat : goal.decreases-loop-seat
decreases-loop-seat l = length l.lines - l.seat.place
