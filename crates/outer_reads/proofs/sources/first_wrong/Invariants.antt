use Rattle.std.proofs.Common.{◌≡◌, ℕ, ◌<◌, Some, slice_get}
use Rattle.outer_reads.specs.declared.readings.Reading.{Reading}
use Rattle.outer_reads.specs.Sources.{HasSource, trace_of}
use Rattle.outer_reads.proofs.sources.first_wrong.Given as goal

abbrev pub invariant-loop-i : goal.invariant-loop-i
invariant-loop-i l = (j : ℕ) (r : Reading) → j < l.i → slice_get l.readings j ≡ Some r → HasSource (trace_of l.transactions l.operations) r.key r.answer
