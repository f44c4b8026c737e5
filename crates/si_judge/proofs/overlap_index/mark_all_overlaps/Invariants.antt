use Rattle.si_judge.proofs.Names.{KeepsMarks, HasReached}
use Rattle.si_judge.proofs.OverlapIndexLemmas.{IsDoneBut}
use Rattle.si_judge.proofs.overlap_index.mark_all_overlaps.Given as goal

abbrev pub invariant-loop-version : goal.invariant-loop-version
invariant-loop-version l = record {
  done : IsDoneBut l.written l.version-iterator l.marks;
  kept : KeepsMarks l.fn.marks l.marks;
  reached : HasReached l.written l.reach l.marks;
}
