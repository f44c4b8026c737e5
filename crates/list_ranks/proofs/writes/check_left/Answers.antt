use Rattle.std.proofs.Common.{rules}
use Rattle.list_ranks.proofs.FlawParts.{missing_stops}
use Rattle.list_ranks.proofs.writes.check_left.Goals as goal

pub returns-then-place-member-clause-wrong : goal.returns-then-place-member-clause-wrong
returns-then-place-member-clause-wrong c =
    missing_stops c.args.trace.now c.args.hints.now c.args.reader c.args.key c.args.values.now c.requires.homes _ c.in-Some-member_at.member.value c.args.value c.args.place c.args.txn c.in-Some-member_at.member.append c.in-Some-member_at.ensures.at c.in-Some-member_at.ensures.home
    (search rules) c.requires.wrote c.if-place-member.true c.requires.lacks
