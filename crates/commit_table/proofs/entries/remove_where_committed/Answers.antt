use Rattle.stamp_base.specs.declared.stores.Mark.TheVariants.{Committed, Invalid}
use Rattle.std.proofs.Common.{Some, None, sym, ap, ◌∙◌}
use Rattle.commit_table.proofs.Marks.{pairs_from-remove, without_committed-found}
use Rattle.commit_table.proofs.entries.remove_where_committed.Goals as goal

pub returns-in-Some-Committed-clause-pairs : goal.returns-in-Some-Committed-clause-pairs
returns-in-Some-Committed-clause-pairs c =
    let found = sym c.in-Some-Committed.is ∙ c.copied.ensures ∙ rw c.value-number.ensures.value at c.get.ensures.value in
    let left = pairs_from-remove c.args.pairs.now c.swap_remove.new.self c.args.txn (rw c.value-number.ensures.value at c.swap_remove.ensures.updates) in
    left ∙ sym (without_committed-found c.args.pairs.now.entries c.args.txn (Some (Committed c.in-Some-Committed.field-0-0)) (ap Some (sym c.in-Some-Committed.field-0-is) ∙ found))

pub returns-in-Some-Invalid-clause-pairs : goal.returns-in-Some-Invalid-clause-pairs
returns-in-Some-Invalid-clause-pairs c =
    let found = sym c.in-Some-Invalid.is ∙ c.copied.ensures ∙ rw c.value-number.ensures.value at c.get.ensures.value in
    sym (without_committed-found c.args.pairs.now.entries c.args.txn (Some Invalid) (ap Some (sym c.in-Some-Invalid.field-0-is) ∙ found))

pub returns-in-None-clause-pairs : goal.returns-in-None-clause-pairs
returns-in-None-clause-pairs c =
    let found = sym c.in-None.is ∙ c.copied.ensures ∙ rw c.value-number.ensures.value at c.get.ensures.value in
    sym (without_committed-found c.args.pairs.now.entries c.args.txn None found)
