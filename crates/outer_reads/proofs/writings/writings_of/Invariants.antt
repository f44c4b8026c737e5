use Rattle.outer_reads.specs.Sources.{WritingsTo, trace_of}
use Rattle.outer_reads.proofs.writings.writings_of.Given as goal

abbrev pub invariant-loop-place : goal.invariant-loop-place
invariant-loop-place l = WritingsTo (trace_of l.transactions l.operations) l.place l.writings.items
