use Rattle.std.proofs.Common.{◌≡◌, ℕ, [], List, None, Result, ◌⊎◌, inl, inr, OnOk, OnErr, Ok, Err, sym, subst, ap, ◌∙◌}
use Rattle.std.specs.Option.{option_copied_mut}
use Rattle.std.proofs.lemmas.Result.{on_ok_weaker, on_err_weaker}
use Rattle.system_parts.specs.Rows.{Row, looked, put_row, AreOrdered}
use Rattle.system_parts.proofs.RowLaws.{ordered-put}
use Rattle.cell_store.specs.KeyLists.{rows_at, rows_of}
use Rattle.cell_store.proofs.RowSplits.{look_is_asked, nothing_is_edit, put_is_edit, put-behind}
use Rattle.cell_store.proofs.MapRows.{asked_there, rising_there, rows_of-set_value, rows_of-insert_entry}
use Rattle.cell_store.proofs.rows.Rows.enter.Goals as goal

pub enter-requires : goal.enter-requires
enter-requires c = rising_there c.args.key c.self.inside.lists.entries c.in-Some.cells.now c.self.invariant.ordered (sym c.get_mut.ensures.value ∙ ap option_copied_mut c.in-Some.is)

-- ---- a list that is there
-- where the cell was entered, the rows have it
Entered : goal.After-self-in-Some-1 → Type 0
Entered c = rows_of (c.get_mut.follows.lender c.enter.new.cells).entries ≡ put_row (rows_of c.self.inside.lists.entries) c.args.key c.args.version c.args.value

entered : (c : goal.After-self-in-Some-1) → ((k : ℕ) → looked (rows_at k c.in-Some.cells.now.items) k c.args.version ≡ None → rows_at k c.enter.new.cells.items ≡ put_row (rows_at k c.in-Some.cells.now.items) k c.args.version c.args.value) → Entered c
unfolding Entered
entered c made =
    let found = sym c.get_mut.ensures.value ∙ ap option_copied_mut c.in-Some.is in
    let same = asked_there c.args.key (λ rows. looked rows c.args.key c.args.version) c.self.inside.lists.entries c.in-Some.cells.now (look_is_asked c.args.key c.args.version) c.self.invariant.keys_ordered found in
    let absent = rw (← c.self.view_is) at c.requires in
    ap rows_of (c.get_mut.follows.holds c.enter.new.cells).0
    ∙ rows_of-set_value c.args.key c.args.version (λ rows. put_row rows c.args.key c.args.version c.args.value) c.self.inside.lists.entries c.in-Some.cells.now c.enter.new.cells (put_is_edit c.args.key c.args.version c.args.value) c.self.invariant.keys_ordered found (made c.args.key (sym same ∙ absent))

-- where memory was refused, they are as before
Kept : goal.After-self-in-Some-1 → Type 0
Kept c = rows_of (c.get_mut.follows.lender c.enter.new.cells).entries ≡ rows_of c.self.inside.lists.entries

kept : (c : goal.After-self-in-Some-1) → c.enter.new.cells.items ≡ c.in-Some.cells.now.items → Kept c
unfolding Kept
kept c same =
    let found = sym c.get_mut.ensures.value ∙ ap option_copied_mut c.in-Some.is in
    ap rows_of (c.get_mut.follows.holds c.enter.new.cells).0
    ∙ rows_of-set_value c.args.key c.args.version (λ rows. rows) c.self.inside.lists.entries c.in-Some.cells.now c.enter.new.cells (nothing_is_edit c.args.key c.args.version) c.self.invariant.keys_ordered found (ap (rows_at c.args.key) same)

either : {T E P Q : Type 0} (r : Result T E) → OnOk r P → OnErr r Q → P ⊎ Q
either (Ok x) p q = inl p
either (Err e) p q = inr q

pub invariant_of-self : goal.invariant_of-self
unfolding Entered Kept
invariant_of-self c = elim (either c.enter.result (on_ok_weaker c.enter.result (entered c) c.enter.ensures.ok) (on_err_weaker c.enter.result (kept c) c.enter.ensures.err)) [
  | inl e ↦ record {
    keys_ordered = (c.get_mut.follows.holds c.enter.new.cells).4;
    ordered = subst (λ (rows : List Row). AreOrdered rows) (sym e) (ordered-put (rows_of c.self.inside.lists.entries) c.args.key c.args.version c.args.value c.self.invariant.ordered);
  }
  | inr e ↦ record {
    keys_ordered = (c.get_mut.follows.holds c.enter.new.cells).4;
    ordered = subst (λ (rows : List Row). AreOrdered rows) (sym e) c.self.invariant.ordered;
  }
]

pub returns-in-Some-clause-ok : goal.returns-in-Some-clause-ok
unfolding Entered
returns-in-Some-clause-ok c = on_ok_weaker c.enter.result (λ made. rw (← c.self.view_is) (entered c made)) c.enter.ensures.ok

pub returns-in-Some-clause-err : goal.returns-in-Some-clause-err
unfolding Kept
returns-in-Some-clause-err c = on_err_weaker c.enter.result (λ same. kept c same ∙ c.self.view_is) c.enter.ensures.err

-- ---- the first cell of a key
rows_left : (c : goal.Joined-branch-3) → rows_of c.insert.new.self.entries ≡ put_row (rows_of c.self.inside.lists.entries) c.args.key c.args.version c.args.value
rows_left c =
    let absent = sym c.get_mut.ensures.value ∙ ap option_copied_mut c.in_default.is in
    let one = ap (rows_at c.args.key) c.in_ok-cells.ensures ∙ sym (put-behind c.args.key c.args.version c.args.value [] tt) in
    rw (c.in_ok-insert.ensures.entries, c.get_mut.follows.holds-at-none) (rows_of-insert_entry c.args.key c.args.version (λ rows. put_row rows c.args.key c.args.version c.args.value) c.self.inside.lists.entries c.in_ok-cells.cells (put_is_edit c.args.key c.args.version c.args.value) c.self.invariant.keys_ordered absent one)

pub invariant_of-self-2 : goal.invariant_of-self-2
invariant_of-self-2 c = record {
  keys_ordered = c.insert.ensures.ordered;
  ordered = subst (λ (rows : List Row). AreOrdered rows) (sym (rows_left c)) (ordered-put (rows_of c.self.inside.lists.entries) c.args.key c.args.version c.args.value c.self.invariant.ordered);
}

pub returns-clause-ok : goal.returns-clause-ok
returns-clause-ok c = rw (← c.self.view_is) (rows_left c)
