use Rattle.committed_reads.specs.Committed.{AreReadEdges}
use Rattle.committed_reads.proofs.read_edges.Given as goal

abbrev pub invariant-loop-i : goal.invariant-loop-i
invariant-loop-i l = AreReadEdges l.count l.readings l.i l.edges.items
