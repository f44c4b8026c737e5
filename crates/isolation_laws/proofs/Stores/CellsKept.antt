-- Every outcome keeps the facts on the cells and the commit table.
use Rattle.isolation_laws.proofs.Names.{OfOwnPlaced, Outcome, OfPlaced, OfAnsweredBegin, OfWrote, left_by}
use Rattle.isolation_laws.proofs.Names.{told_by_outcome, ◌∷◌, ◌≡◌, ℕ, List, ◌++◌, Option, Some, None, inl, inr, refl}
use Rattle.isolation_laws.proofs.Names.{◌∙◌, ap, last_write, Item, Cell, looked, InstanceEntry, Client, State, AllQuiet}
use Rattle.isolation_laws.proofs.Names.{CellFacts, IsolationInvariant, AnsweredBegin, answered_begin_state}
use Rattle.isolation_laws.proofs.Names.{answered_begin_items}
use Rattle.isolation_laws.proofs.Numbers.Placings.{PlacedPending, placed_item, placed_pairs, placed_live, by_its_node, by_its_session}
use Rattle.isolation_laws.proofs.Requests.RequestsOfBegins.{start_unbegun}
use Rattle.isolation_laws.proofs.Stores.LiveAfter.{FewerLive, live_answered_begin}
use Rattle.isolation_laws.proofs.Requests.WrittenKeys.{last_write-none}
use Rattle.isolation_laws.proofs.Stores.CellsStay.{cells_calm}
use Rattle.isolation_laws.proofs.Stores.CellsMove.{cells_placed}
use Rattle.isolation_laws.proofs.UnderWay.UnderWayOfRequests.{calm_begin, is_placing}
use Rattle.isolation_laws.proofs.UnderWay.WritesKept.{cells_wrote}
use Rattle.isolation_laws.proofs.Holding.LeftAlone.{alone}

-- ---- a begin is answered: its transaction has neither rows nor writes
start_no_row : (w : State) (h : List Item) (k : AnsweredBegin w) (j : ℕ) → IsolationInvariant w h → looked w.rows j k.start ≡ None
start_no_row w h k j holds = by (looked w.rows j k.start) refl
  where
    by : (found : Option Cell) → looked w.rows j k.start ≡ found → looked w.rows j k.start ≡ None
    by None e = e
    by (Some cell) e = let was = holds.cells.rows_are.begun j k.start cell e in absurd (start_unbegun w h k was.0 holds was.1)

start_no_write : (w : State) (h : List Item) (k : AnsweredBegin w) (j : ℕ) → IsolationInvariant w h → last_write h k.start j ≡ None
start_no_write w h k j holds = last_write-none h k.start j (λ s value m. let was = holds.numbers.begun.writes s k.start j value m in start_unbegun w h k was.0 holds was.1)

cells_answered_begin : (w : State) (h : List Item) (k : AnsweredBegin w) → IsolationInvariant w h → CellFacts (answered_begin_state w k).clients (answered_begin_state w k).nodes w.rows w.pairs (h ++ answered_begin_items w k)
cells_answered_begin w h k holds = cells_calm w.clients (answered_begin_state w k).clients w.nodes (answered_begin_state w k).nodes w.rows w.pairs h (h ++ answered_begin_items w k)
    (λ t live. elim (live_answered_begin w k t live) [
      | inl old ↦ inl old
      | inr now ↦ inr (λ j. (ap (looked w.rows j) now ∙ start_no_row w h k j holds, ap (λ q. last_write h q j) now ∙ start_no_write w h k j holds))
    ]) (calm_begin h k.session k.start) holds.cells

-- ---- a commit is placed
cells_placed_one : (w : State) (h : List Item) (p : PlacedPending w) (clients : List Client) (nodes : List (Option InstanceEntry)) (items : List Item) → AllQuiet items → FewerLive w.clients w.nodes clients nodes → IsolationInvariant w h → CellFacts clients nodes w.rows (placed_pairs w p) (h ++ placed_item w p ∷ items)
cells_placed_one w h p clients nodes items quiet fewer holds =
    cells_placed w.clients clients w.nodes nodes w.rows w.pairs h (h ++ placed_item w p ∷ items) p.coming.start p.commit fewer (is_placing h items p.coming.start p.commit quiet) (placed_live w p) p.free holds.cells

-- ---- every outcome
pub cells_kept : (w : State) (h : List Item) (o : Outcome w) → IsolationInvariant w h → CellFacts (left_by w o).clients (left_by w o).nodes (left_by w o).rows (left_by w o).pairs (h ++ told_by_outcome w o)
cells_kept w h (OfPlaced k) holds = cells_placed_one w h (by_its_node w h k holds) w.clients _ k.items k.quiet ((alone w h (OfPlaced k) holds).live refl) holds
cells_kept w h (OfOwnPlaced k) holds = cells_placed_one w h (by_its_session w k) _ w.nodes k.items k.quiet ((alone w h (OfOwnPlaced k) holds).live refl) holds
cells_kept w h (OfAnsweredBegin k) holds = cells_answered_begin w h k holds
cells_kept w h (OfWrote k) holds = cells_wrote w h k holds
cells_kept w h o holds = (alone w h o holds).stores.cells refl refl
