use Rattle.std.proofs.Common.{◌≡◌, drop}
use Rattle.system_parts.specs.KeyRead.{after_passed}
use Rattle.reader_resolve.proofs.turn.first_left.Given as goal

abbrev pub invariant-loop-i : goal.invariant-loop-i
invariant-loop-i l = after_passed l.start (drop l.i l.cells) ≡ after_passed l.start (drop l.from l.cells)
