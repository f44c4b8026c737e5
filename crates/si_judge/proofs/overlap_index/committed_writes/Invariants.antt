use Rattle.si_judge.specs.OverlapIndex.{HasWrites}
use Rattle.si_judge.proofs.overlap_index.committed_writes.Given as goal

abbrev pub invariant-loop-item : goal.invariant-loop-item
invariant-loop-item l = HasWrites l.items l.item-index l.commits l.written
