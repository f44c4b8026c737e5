use Rattle.std.proofs.Common.{sym, ◌∙◌}
use Rattle.commit_table.proofs.Marks.{put_pair-there, put_pair-absent}
use Rattle.commit_table.proofs.entries.place.Goals as goal

pub returns-then-contains_key-clause-pairs : goal.returns-then-contains_key-clause-pairs
returns-then-contains_key-clause-pairs c =
    let there = rw c.value-number.ensures.value at c.contains_key.ensures in
    put_pair-there c.args.pairs.now.entries c.args.txn c.args.mark (sym there ∙ c.if-contains_key.true)

pub returns-clause-pairs : goal.returns-clause-pairs
returns-clause-pairs c =
    let there = rw c.value-number.ensures.value at c.contains_key.ensures in
    put_pair-absent c.args.pairs.now c.insert.new.self c.args.txn c.args.mark (sym there ∙ c.if-contains_key.false) (rw c.value-number.ensures.value at c.in-Ok.ensures.updates)
