use Rattle.std.proofs.Common.{take}
use Rattle.outer_reads.specs.Sources.{AreRight, HasLast, trace_of}
use Rattle.outer_reads.proofs.readings.readings_of.Given as goal

abbrev pub invariant-loop-place : goal.invariant-loop-place
invariant-loop-place l = record {
  last : HasLast (take l.place l.operations) l.last.values;
  right : AreRight (trace_of l.transactions l.operations) l.place l.readings.items;
}
