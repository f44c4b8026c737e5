use Rattle.std.proofs.Common.{sym, ap, ◌∙◌}
use Rattle.std.specs.Option.{option_copied}
use Rattle.system_parts.specs.Rows.{fetched, looked}
use Rattle.cell_store.proofs.RowSplits.{look_is_asked, fetch_is_asked}
use Rattle.cell_store.proofs.MapRows.{asked_there, asked_none, rising_there}
use Rattle.cell_store.proofs.rows.Rows.cells_of.Goals as goal

pub returns-in-Some-clause-rising : goal.returns-in-Some-clause-rising
returns-in-Some-clause-rising c =
    let found = sym c.get.ensures.value ∙ ap option_copied c.in-Some.is in
    rw c.deref.ensures.value (rising_there c.args.key c.self.inside.lists.entries c.in-Some.cells.now c.self.invariant.ordered found)

pub returns-in-Some-clause-looked : goal.returns-in-Some-clause-looked
returns-in-Some-clause-looked c = λ t.
    let found = sym c.get.ensures.value ∙ ap option_copied c.in-Some.is in
    rw (← c.self.view_is, c.deref.ensures.value) (sym (asked_there c.args.key (λ rows. looked rows c.args.key t) c.self.inside.lists.entries c.in-Some.cells.now (look_is_asked c.args.key t) c.self.invariant.keys_ordered found))

pub returns-in-Some-clause-fetched : goal.returns-in-Some-clause-fetched
returns-in-Some-clause-fetched c = λ upto.
    let found = sym c.get.ensures.value ∙ ap option_copied c.in-Some.is in
    rw (← c.self.view_is, c.deref.ensures.value) (sym (asked_there c.args.key (λ rows. fetched rows c.args.key upto) c.self.inside.lists.entries c.in-Some.cells.now (fetch_is_asked c.args.key upto) c.self.invariant.keys_ordered found))

pub returns-in-None-clause-looked : goal.returns-in-None-clause-looked
returns-in-None-clause-looked c = λ t.
    let absent = sym c.get.ensures.value ∙ ap option_copied c.in-None.is in
    rw (← c.self.view_is) (sym (asked_none c.args.key (λ rows. looked rows c.args.key t) c.self.inside.lists.entries (look_is_asked c.args.key t) c.self.invariant.keys_ordered absent))

pub returns-in-None-clause-fetched : goal.returns-in-None-clause-fetched
returns-in-None-clause-fetched c = λ upto.
    let absent = sym c.get.ensures.value ∙ ap option_copied c.in-None.is in
    rw (← c.self.view_is) (sym (asked_none c.args.key (λ rows. fetched rows c.args.key upto) c.self.inside.lists.entries (fetch_is_asked c.args.key upto) c.self.invariant.keys_ordered absent))
