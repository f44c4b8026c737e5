-- One step on the stores of a completion, a sweep, a read or a resolve: what it needs, and that the cells and the commit
-- table stay right by it.
use Rattle.isolation_laws.proofs.Names.{◌≡◌, ℕ, List, Some, inl, inr, refl, sym, ◌∙◌, ap, subst, same_Some, none-some}
use Rattle.isolation_laws.proofs.Names.{InvalidMark, Committed, Item, Cell, Row, looked, with_shadow, without_bare}
use Rattle.isolation_laws.proofs.Names.{Pairs, entry_stays-put_pair, invalid_stays-without_committed, Ask, State}
use Rattle.isolation_laws.proofs.Names.{rows_after, pairs_after, Marked, Live, IsSwept, AreShadowed, CellFacts}
use Rattle.isolation_laws.proofs.Names.{HasShadow, IsolationInvariant}
use Rattle.system_parts.proofs.RowLaws.{shadowed}
use Rattle.system_parts.specs.declared.asks.Ask.TheVariants as ask
use Rattle.isolation_laws.proofs.OnceEach.{one_commit}
use Rattle.isolation_laws.proofs.Owners.{live_unplaced}
use Rattle.isolation_laws.proofs.Stores.Calm.{Calm, calm_same}
use Rattle.isolation_laws.proofs.Stores.CellsStay.{cells_pairs, marking_moves, removal_moves, shadow_cases, cells_shadow}
use Rattle.isolation_laws.proofs.Stores.CellsMove.{erase_cases, cells_erase}
use Rattle.isolation_laws.proofs.UnderWay.Works.{KeepsPlaced}

-- what a step needs
abbrev pub AskFits : State → List Item → Ask → Type 0
AskFits w h (ask.Shadow k t c) = Committed h t c
AskFits w h (ask.Remove t) = (c : ℕ) → Committed h t c → AreShadowed w.rows h t c
AskFits w h (ask.Erase k t) = ((c : ℕ) → Committed h t c → AreShadowed w.rows h t c) × (Live w.clients w.nodes t → IsSwept w.pairs h t)
AskFits w h _ = Unit {0}

pub never_live : (w : State) (h : List Item) → IsolationInvariant w h → (u d : ℕ) → Live w.clients w.nodes u → Committed h u d → ⊥
never_live w h holds u d live is = live_unplaced w.clients w.nodes h u d holds.numbers.placed holds.requests.pending holds.requests.opened live is

pub cells_stepped : (w : State) (h : List Item) (asked : Ask) → IsolationInvariant w h → AskFits w h asked → CellFacts w.clients w.nodes (rows_after asked w.rows) (pairs_after asked w.pairs) h
cells_stepped w h (ask.Get t) holds fits = holds.cells
cells_stepped w h (ask.Mark t) holds fits = cells_pairs w.clients w.nodes w.rows w.pairs _ h (marking_moves w.rows w.pairs h t) holds.cells
cells_stepped w h (ask.Look k t) holds fits = holds.cells
cells_stepped w h (ask.Shadow k t c) holds fits = cells_shadow w.clients w.nodes w.rows w.pairs h k t c holds.isolated.stamped (never_live w h holds) fits holds.cells
cells_stepped w h (ask.Remove t) holds fits = cells_pairs w.clients w.nodes w.rows w.pairs _ h (removal_moves w.rows w.pairs h t fits) holds.cells
cells_stepped w h (ask.Erase k t) holds fits = cells_erase w.clients w.nodes w.rows w.pairs h k t fits.0 fits.1 holds.cells
cells_stepped w h (ask.Keys t) holds fits = holds.cells

-- ---- rows with the shadows of placed commits stay
pub keeps_same : (rows : List Row) (h g : List Item) → Calm h g → KeepsPlaced rows rows h g
keeps_same rows h g calm = record { on = calm.on; writes = λ t c k is. calm.writes t k; shadows = λ t c k is has. has }

pub keeps_more : (rows new : List Row) (h g : List Item) → KeepsPlaced rows new h h → Calm h g → KeepsPlaced rows new h g
keeps_more rows new h g keeps calm = record { on = calm.on; writes = λ t c k is. calm.writes t k; shadows = keeps.shadows }

pub has_shadow_set : (rows new : List Row) (j u c : ℕ) (cell : Cell) → looked new j u ≡ shadowed c (looked rows j u) → looked rows j u ≡ Some cell → HasShadow new j u c
has_shadow_set rows new j u c cell is there = (record cell { shadow = Some c }, is ∙ ap (shadowed c) there, refl)

pub keeps_shadow : (w : State) (h : List Item) (k t c : ℕ) → IsolationInvariant w h → Committed h t c → KeepsPlaced w.rows (with_shadow w.rows k t c) h h
keeps_shadow w h k t c holds is = record {
  on = λ x m. m;
  writes = λ u d j placed. refl;
  shadows = λ u d j placed has. elim (shadow_cases w.rows k t c j u) [
    | inl here ↦ subst (λ q. HasShadow (with_shadow w.rows k t c) j u q) (one_commit h u c d holds.isolated.stamped (subst (λ q. Committed h q c) here.1 is) placed) (has_shadow_set w.rows (with_shadow w.rows k t c) j u c has.0 here.2 has.1)
    | inr same ↦ (has.0, same ∙ has.1, has.2)
  ];
}

pub keeps_erase : (w : State) (h : List Item) (k t : ℕ) → IsolationInvariant w h → KeepsPlaced w.rows (without_bare w.rows k t) h h
keeps_erase w h k t holds = record {
  on = λ x m. m;
  writes = λ u d j placed. refl;
  shadows = λ u d j placed has. elim (erase_cases w.rows k t j u holds.cells.rows_are.ordered) [
    | inl here ↦ absurd (none-some d (sym here.bare ∙ (ap (λ (x : Cell). x.shadow) (same_Some here.cell has.0 (sym here.was ∙ has.1)) ∙ has.2)))
    | inr same ↦ (has.0, same ∙ has.1, has.2)
  ];
}

pub keeps_stepped : (w : State) (h : List Item) (asked : Ask) → IsolationInvariant w h → AskFits w h asked → KeepsPlaced w.rows (rows_after asked w.rows) h h
keeps_stepped w h (ask.Shadow k t c) holds fits = keeps_shadow w h k t c holds fits
keeps_stepped w h (ask.Erase k t) holds fits = keeps_erase w h k t holds
keeps_stepped w h _ holds fits = keeps_same w.rows h h (calm_same h)

-- a mark stays
pub marks_stepped : (asked : Ask) (pairs : Pairs) (t : ℕ) → Marked pairs t → Marked (pairs_after asked pairs) t
marks_stepped (ask.Mark u) pairs t marked = entry_stays-put_pair pairs u t InvalidMark InvalidMark marked
marks_stepped (ask.Remove u) pairs t marked = invalid_stays-without_committed pairs u t marked
marks_stepped _ pairs t marked = marked
