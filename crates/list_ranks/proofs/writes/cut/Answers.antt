use Rattle.list_ranks.proofs.FlawParts.{cut_stops}
use Rattle.list_ranks.proofs.writes.cut.Goals as goal

pub returns-then-early-txn-clause-wrong : goal.returns-then-early-txn-clause-wrong
returns-then-early-txn-clause-wrong c =
    cut_stops c.args.trace.now c.args.hints.now c.args.reader c.args.key c.args.values.now c.requires.homes c.args.first c.args.last c.in-Some.early.value c.args.member.value c.args.value c.args.place c.args.txn c.in-Some.early.append c.args.member.append
    c.if-first-last.true c.in-Some.ensures.at c.requires.at c.in-Some.ensures.home c.requires.home c.if-early-txn.true c.requires.differ c.requires.wrote c.requires.lacks
