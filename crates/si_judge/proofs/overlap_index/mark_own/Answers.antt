use Rattle.std.proofs.Common.{◌≡◌, [], rules}
use Rattle.si_judge.proofs.OverlapIndexLemmas.{between, none_between}
use Rattle.si_judge.proofs.overlap_index.mark_own.Goals as goal

pub returns-else-is_some-clause-marked : goal.returns-else-is_some-clause-marked
returns-else-is_some-clause-marked c =
    let steps = c.next.ensures.steps in
    let part = c.range.ensures.between in
    let off = c.is_some.ensures in
    let taken = c.if-is_some.ensures in
    let none : between c.args.written.now c.args.key c.args.start c.args.commit.now.stamp ≡ [] = search rules in
    none_between c.args.written.now c.args.key c.args.start c.args.commit.now c.args.marks.now none
