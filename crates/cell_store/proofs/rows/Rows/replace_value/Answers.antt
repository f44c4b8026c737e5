use Rattle.std.proofs.Common.{◌≡◌, List, is_some, IsSome, sym, subst, ap, ◌∙◌}
use Rattle.std.specs.Option.{option_copied_mut}
use Rattle.system_parts.specs.Rows.{Row, looked, put_row, AreOrdered}
use Rattle.system_parts.proofs.RowLaws.{ordered-put}
use Rattle.cell_store.specs.KeyLists.{rows_of}
use Rattle.cell_store.proofs.RowSplits.{look_is_asked, looked-none, put_is_edit}
use Rattle.cell_store.proofs.MapRows.{asked_none, asked_there, rising_there, rows_of-set_value}
use Rattle.cell_store.proofs.rows.Rows.replace_value.Goals as goal

pub replace_value-requires : goal.replace_value-requires
replace_value-requires c = rising_there c.args.key c.self.inside.lists.entries c.in-Some.cells.now c.self.invariant.ordered (sym c.get_mut.ensures.value ∙ ap option_copied_mut c.in-Some.is)

pub returns-in_default : goal.returns-in_default
returns-in_default c =
    let absent = sym c.get_mut.ensures.value ∙ ap option_copied_mut c.in_default.is in
    let none = asked_none c.args.key (λ rows. looked rows c.args.key c.args.version) c.self.inside.lists.entries (look_is_asked c.args.key c.args.version) c.self.invariant.keys_ordered absent ∙ looked-none c.args.key c.args.version _ tt in
    let there = rw (← c.self.view_is) at c.requires in
    let no = sym there ∙ ap is_some none in
    absurd (cc)

-- the row that takes the value
row_there : (c : goal.After-self-2-1) → IsSome (looked (rows_of c.self.inside.lists.entries) c.args.key c.args.version)
row_there c = rw (← c.self.view_is) at c.requires

-- the rows of the lists as they are left
rows_left : (c : goal.After-self-2-1) → rows_of (c.get_mut.follows.lender c.replace_value.new.cells).entries ≡ put_row (rows_of c.self.inside.lists.entries) c.args.key c.args.version c.args.value
rows_left c =
    let found = sym c.get_mut.ensures.value ∙ ap option_copied_mut c.in-Some.is in
    let same = asked_there c.args.key (λ rows. looked rows c.args.key c.args.version) c.self.inside.lists.entries c.in-Some.cells.now (look_is_asked c.args.key c.args.version) c.self.invariant.keys_ordered found in
    ap rows_of (c.get_mut.follows.holds c.replace_value.new.cells).0
    ∙ rows_of-set_value c.args.key c.args.version (λ rows. put_row rows c.args.key c.args.version c.args.value) c.self.inside.lists.entries c.in-Some.cells.now c.replace_value.new.cells (put_is_edit c.args.key c.args.version c.args.value) c.self.invariant.keys_ordered found (c.replace_value.ensures c.args.key (sym (ap is_some same) ∙ row_there c))

pub invariant_of-self-2 : goal.invariant_of-self-2
invariant_of-self-2 c = record {
  keys_ordered = (c.get_mut.follows.holds c.replace_value.new.cells).4;
  ordered = subst (λ (rows : List Row). AreOrdered rows) (sym (rows_left c)) (ordered-put (rows_of c.self.inside.lists.entries) c.args.key c.args.version c.args.value c.self.invariant.ordered);
}

pub returns : goal.returns
returns c = rw (← c.self.view_is) (rows_left c)
