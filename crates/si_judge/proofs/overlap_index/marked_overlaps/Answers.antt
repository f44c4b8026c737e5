use Rattle.std.proofs.Common.{arith}
use Rattle.si_judge.proofs.OverlapIndexLemmas.{unmarked_passes}
use Rattle.si_judge.proofs.overlap_index.marked_overlaps.Goals as goal

pub returns : goal.returns
returns c = record {
  each = omega (arith, c.mark_all_overlaps.ensures.kept.each, c.in_ok-marks.ensures);
  unmarked = unmarked_passes c.args.items.now c.args.commits.now c.in_ok-written.written c.mark_all_overlaps.new.marks c.requires c.in_ok-written.ensures c.mark_all_overlaps.ensures.marked;
}
