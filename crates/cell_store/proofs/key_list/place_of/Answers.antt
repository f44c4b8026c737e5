use Rattle.std.proofs.Common.{◌≡◌, ◌<◌, ◌==◌, false, length, get_or, sym, ap, ◌∙◌, arith}
use Rattle.std.proofs.lemmas.Bool.{eqb-false}
use Rattle.std.proofs.lemmas.List.{get_or_default}
use Rattle.system_parts.specs.declared.rows.Cell.{Cell}
use Rattle.cell_store.proofs.KeyRows.{higher_from, looked-gap}
use Rattle.cell_store.proofs.key_list.place_of.Goals.{else-at-cells-via-then-at-cells+else-eq, else-at-cells-via-else-at-cells}
use Rattle.cell_store.proofs.key_list.place_of.Goals as goal

-- where the search ended, no cell of the version stands
other : (c : goal.Joined-else-at-cells) → c.count_lower-at.result < length c.args.cells.now → (d : Cell) → (get_or c.args.cells.now c.count_lower-at.result d).version ≡ c.args.version → ⊥
other c within d same = elim c.else-at-cells.branch [
  | else-at-cells-via-then-at-cells+else-eq w ↦
      let found = w.eq.ensures in
      let no = w.if-eq.false in
      let there = ap (λ (x : Cell). x.version) (get_or_default c.args.cells.now c.count_lower-at.result w.index-cells-at.result d within) in
      let differs : ((get_or c.args.cells.now c.count_lower-at.result w.index-cells-at.result).version == c.args.version) ≡ false = sym found ∙ no in
      absurd (eqb-false _ _ differs (there ∙ same))
  | else-at-cells-via-else-at-cells w ↦ let past = w.if-at-cells.false in absurd (omega arith)
]

pub returns-else-at-cells-clause-none : goal.returns-else-at-cells-clause-none
returns-else-at-cells-clause-none c = λ k e.
    let kept = c.count_lower-at.ensures in
    let higher = higher_from c.args.version c.count_lower-at.result c.args.cells.now c.requires kept.higher (other c) in
    looked-gap k c.args.version c.count_lower-at.result c.args.cells.now kept.lower higher
