use Rattle.std.proofs.Common.{◌≡◌, ◌<◌, ℕ, Some, slice_get}
use Rattle.outer_reads.specs.declared.readings.Reading.{Reading}
use Rattle.stamp_check.specs.Orders.{Sees}
use Rattle.stamp_check.proofs.reads_rise.Given as goal

abbrev pub invariant-loop-i : goal.invariant-loop-i
invariant-loop-i l = (j : ℕ) (r : Reading) → j < l.i → slice_get l.readings j ≡ Some r → (place : ℕ) × Sees l.count l.numbers l.order place r.key r.txn r.answer
