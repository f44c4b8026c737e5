use Rattle.std.proofs.Common.{sym, ap, ◌∙◌}
use Rattle.std.specs.FinSet as set
use Rattle.commit_table.proofs.Marks.{places_from-insert, insert-there, contains-places_from}
use Rattle.commit_table.proofs.Table.reserve.Goals as goal

pub returns-then-contains-clause-places : goal.returns-then-contains-clause-places
returns-then-contains-clause-places c =
    let there = rw c.value-number.ensures.value at c.contains.ensures in
    rw (← c.self.view_is) (insert-there c.self.inside.places.keys c.args.txn (sym there ∙ c.if-contains.true))

pub returns-clause-places : goal.returns-clause-places
returns-clause-places c = places_from-insert c.self.inside.places c.insert.new.self c.args.txn (rw c.value-number.ensures.value at c.in_ok-insert.ensures.updates) ∙ ap (λ s. set.insert s.places c.args.txn) c.self.view_is

pub returns-then-contains-clause-reserved : goal.returns-then-contains-clause-reserved
returns-then-contains-clause-reserved c =
    let there = rw c.value-number.ensures.value at c.contains.ensures in
    rw (← c.self.view_is) (contains-places_from c.self.inside.places.keys c.args.txn ∙ sym there ∙ c.if-contains.true)

pub returns-clause-reserved : goal.returns-clause-reserved
returns-clause-reserved c = contains-places_from c.insert.new.self.keys c.args.txn ∙ (rw c.value-number.ensures.value at c.in_ok-insert.ensures.updates).1
