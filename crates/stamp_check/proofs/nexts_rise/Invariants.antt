use Rattle.std.proofs.Common.{◌≡◌, ◌+◌, ◌<◌, ℕ, Some, slice_get}
use Rattle.outer_reads.specs.declared.writings.Writing.{Writing}
use Rattle.stamp_check.specs.Orders.{NextRises}
use Rattle.stamp_check.proofs.nexts_rise.Given as goal

abbrev pub invariant-loop-next : goal.invariant-loop-next
invariant-loop-next l = (i : ℕ) (a b : Writing) → i + 1 < l.next → slice_get l.order i ≡ Some a → slice_get l.order (i + 1) ≡ Some b → NextRises l.count l.numbers a b
