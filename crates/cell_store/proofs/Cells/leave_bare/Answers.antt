use Rattle.std.proofs.Common.{◌≡◌, sym, subst, ◌∙◌, List, None, IfSome, Option}
use Rattle.system_parts.specs.declared.rows.Cell.{Cell}
use Rattle.system_parts.specs.Rows.{Row, IsBare}
use Rattle.system_parts.proofs.RowVersions.{without_bare_absent, without_bare_shadowed}
use Rattle.cell_store.proofs.Shadows.{shadow_is_none, shadow_is_some, unwrapped}
use Rattle.cell_store.proofs.IndexKeys.{index_left, ranged_left, IsIndexOf}
use Rattle.cell_store.proofs.Cells.leave_bare.Goals as goal

pub returns-in_default : goal.returns-in_default
returns-in_default c = rw (← c.self.view_is) (sym (without_bare_absent c.self.inside.rows c.args.key c.args.version (sym c.cell.ensures.value ∙ c.in_default.is)))

pub invariant_of-self : goal.invariant_of-self
invariant_of-self c =
    let none : c.in-Some.cell.shadow ≡ None = shadow_is_none c.in-Some.cell.shadow c.is_none.result c.is_none.ensures c.if-is_none.true in
    let bare : IsBare c.self.inside.rows c.args.key c.args.version = subst (λ (found : Option Cell). IfSome found (λ cell. cell.shadow ≡ None)) (sym (sym c.cell.ensures.value ∙ c.in-Some.is)) none in
    record {
      ordered = c.remove.ensures.ordered;
      indexed = subst (λ (rows : List Row). IsIndexOf rows c.remove.new.self) (sym c.remove_bare.ensures) (index_left c.self.inside.rows c.self.inside.index c.remove.new.self c.args.key c.args.version c.self.invariant.indexed c.cell.ensures.ordered bare c.remove.ensures.updates);
      ranged = ranged_left c.self.inside.index c.remove.new.self c.args.key c.args.version c.self.invariant.ranged c.remove.ensures.updates;
    }

pub returns-else-is_none : goal.returns-else-is_none
returns-else-is_none c =
    let found = sym c.cell.ensures.value ∙ c.in-Some.is in
    rw (← c.self.view_is) (sym (without_bare_shadowed c.self.inside.rows c.args.key c.args.version (unwrapped c.in-Some.cell.shadow) c.in-Some.cell found (shadow_is_some c.in-Some.cell.shadow c.is_none.result c.is_none.ensures c.if-is_none.false)))
