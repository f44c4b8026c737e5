use Rattle.std.proofs.Common.{sym, ◌∙◌}
use Rattle.commit_table.proofs.Marks.{mark_of-pairs_from}
use Rattle.commit_table.proofs.Table.mark_of.Goals as goal

pub returns : goal.returns
returns c =
    let found = rw c.value.ensures.value at c.get.ensures.value in
    rw (← c.self.view_is) (c.copied.ensures ∙ found ∙ sym (mark_of-pairs_from c.self.inside.pairs.entries c.args.txn))
