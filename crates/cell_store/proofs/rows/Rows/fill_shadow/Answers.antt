use Rattle.std.proofs.Common.{◌≡◌, List, sym, subst, ap, ◌∙◌}
use Rattle.std.specs.Option.{option_copied_mut}
use Rattle.system_parts.specs.Rows.{Row, looked, with_shadow, AreOrdered}
use Rattle.system_parts.proofs.RowLaws.{ordered-shadow}
use Rattle.cell_store.specs.KeyLists.{rows_of}
use Rattle.cell_store.proofs.RowSplits.{look_is_asked, looked-none, shadow_absent, shadow_is_edit}
use Rattle.cell_store.proofs.MapRows.{asked_none, rising_there, rows_of-set_value}
use Rattle.cell_store.proofs.rows.Rows.fill_shadow.Goals as goal

pub fill_shadow-requires : goal.fill_shadow-requires
fill_shadow-requires c = rising_there c.args.key c.self.inside.lists.entries c.in-Some.cells.now c.self.invariant.ordered (sym c.get_mut.ensures.value ∙ ap option_copied_mut c.in-Some.is)

pub returns-in_default : goal.returns-in_default
returns-in_default c =
    let absent = sym c.get_mut.ensures.value ∙ ap option_copied_mut c.in_default.is in
    let none = asked_none c.args.key (λ rows. looked rows c.args.key c.args.version) c.self.inside.lists.entries (look_is_asked c.args.key c.args.version) c.self.invariant.keys_ordered absent ∙ looked-none c.args.key c.args.version _ tt in
    rw (c.get_mut.follows.holds-at-none, ← c.self.view_is) (sym (shadow_absent (rows_of c.self.inside.lists.entries) c.args.key c.args.version c.args.commit none))

-- the rows of the lists as they are left
rows_left : (c : goal.After-self-2-1) → rows_of (c.get_mut.follows.lender c.fill_shadow.new.cells).entries ≡ with_shadow (rows_of c.self.inside.lists.entries) c.args.key c.args.version c.args.commit
rows_left c =
    let found = sym c.get_mut.ensures.value ∙ ap option_copied_mut c.in-Some.is in
    ap rows_of (c.get_mut.follows.holds c.fill_shadow.new.cells).0
    ∙ rows_of-set_value c.args.key c.args.version (λ rows. with_shadow rows c.args.key c.args.version c.args.commit) c.self.inside.lists.entries c.in-Some.cells.now c.fill_shadow.new.cells (shadow_is_edit c.args.key c.args.version c.args.commit) c.self.invariant.keys_ordered found (c.fill_shadow.ensures c.args.key)

pub invariant_of-self-2 : goal.invariant_of-self-2
invariant_of-self-2 c = record {
  keys_ordered = (c.get_mut.follows.holds c.fill_shadow.new.cells).4;
  ordered = subst (λ (rows : List Row). AreOrdered rows) (sym (rows_left c)) (ordered-shadow (rows_of c.self.inside.lists.entries) c.args.key c.args.version c.args.commit c.self.invariant.ordered);
}

pub returns : goal.returns
returns c = rw (← c.self.view_is) (rows_left c)
