use Rattle.si_judge.specs.Marks.{KeepsMarks}
use Rattle.si_judge.proofs.OverlapIndexLemmas.{IsMarkedBut, between}
use Rattle.si_judge.proofs.overlap_index.mark_up_to.Given as goal

abbrev pub invariant-loop-other : goal.invariant-loop-other
invariant-loop-other l = record {
  marked : IsMarkedBut (between l.written l.fn.reach.key l.fn.reach.upto l.fn.stamp) l.other-iterator l.marks;
  kept : KeepsMarks l.fn.marks l.marks;
}
