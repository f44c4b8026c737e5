use Rattle.list_ranks.proofs.FlawParts.{split_stops}
use Rattle.list_ranks.proofs.steps.split.Goals as goal

pub returns-then-early-next-clause-wrong : goal.returns-then-early-next-clause-wrong
returns-then-early-next-clause-wrong c =
    split_stops c.args.trace.now c.args.hints.now c.args.reader c.args.key c.args.values.now c.args.first c.args.place c.in-Some.early.value c.args.member.value c.args.next.value c.in-Some.early.append c.args.member.append c.args.next.append
    c.if-first-place.true c.in-Some.ensures.at c.requires.at c.requires.next_at c.in-Some.ensures.home c.requires.home c.requires.next_home c.if-early-next.true c.requires.differ
