-- The stores of a state that is reached stand at rest with its history.
use Rattle.cluster_core.proofs.Names.{◌≡◌, ℕ, ◌⊎◌, inl, inr, ⊎_elim, refl, sym, ap, ◌∙◌, List, none-some, Item, looked}
use Rattle.cluster_core.proofs.Names.{Pairs, cell_with, HasRecord, State}
use Rattle.std.specs.Prelude.{Option, None, Some}
use Rattle.history_book.specs.Isolation.{last_write}
use Rattle.system_parts.specs.declared.rows.Cell.{Cell}
use Rattle.isolation_laws.specs.Cells.{AreShadowed}
use Rattle.isolation_laws.specs.Sound.{ReachedInvariant}
use Rattle.cell_compaction.specs.Rest.{IsWritten, StandsAtRest}

-- a cell that is written is bare or has the commit as shadow; and where it is bare, the table has the record
written_cell : (pairs : Pairs) (t c : ℕ) (value : List ℕ) (wrote : Option (List ℕ)) (cell : Option Cell) → wrote ≡ Some value → (cell ≡ cell_with t None wrote) ⊎ (cell ≡ cell_with t (Some c) wrote) → HasRecord pairs t c ⊎ (cell ≡ cell_with t (Some c) wrote) → IsWritten pairs cell t c value
written_cell pairs t c value wrote cell is (inr shadowed) recorded = inl (shadowed ∙ ap (cell_with t (Some c)) is)
written_cell pairs t c value wrote cell is (inl bare) (inl record_there) = inr (bare ∙ ap (cell_with t None) is, record_there)
written_cell pairs t c value wrote cell is (inl bare) (inr shadowed) = inl (shadowed ∙ ap (cell_with t (Some c)) is)

-- where no value was written there is no cell
wrote_some : (t : ℕ) (shadow : Option ℕ) (wrote : Option (List ℕ)) (cell : Cell) → Some cell ≡ cell_with t shadow wrote → (value : List ℕ) × (wrote ≡ Some value)
wrote_some t shadow None cell is = absurd (none-some cell (sym is))
wrote_some t shadow (Some value) cell is = (value, refl)

pub stores_at_rest : (w : State) (h : List Item) → ReachedInvariant w h → StandsAtRest h w.rows w.pairs
stores_at_rest w h stands =
    let cells = stands.holds.cells in
    record {
      ordered = cells.rows_are.ordered;
      written = λ t c k value committed wrote.
          written_cell w.pairs t c value (last_write h t k) (looked w.rows k t) wrote (cells.placed.cells t c k committed)
          (⊎_elim (λ there. inl there) (λ (all : AreShadowed w.rows h t c). inr (all k)) (cells.placed.found t c committed));
      shadowed = λ k t c cell found is. cells.rows_are.placed k t c cell found is;
      paired = λ t c there. cells.pairs_are.placed t c there;
      no_others = λ t c k cell committed found.
          ⊎_elim (λ bare. wrote_some t None (last_write h t k) cell (sym found ∙ bare)) (λ shadowed. wrote_some t (Some c) (last_write h t k) cell (sym found ∙ shadowed)) (cells.placed.cells t c k committed);
    }
