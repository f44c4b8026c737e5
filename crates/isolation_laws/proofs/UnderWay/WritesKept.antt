-- The cells, the commit table and what is under way where a session writes, and where its write fails.
use Rattle.isolation_laws.proofs.Requests.ClientMoves.{at_work_after}
use Rattle.isolation_laws.proofs.Names.{OfWriteFailed, ◌≡◌, ℕ, List, ◌++◌, Option, Some, None, ◌⊎◌, inl, inr, refl, sym}
use Rattle.isolation_laws.proofs.Names.{◌∙◌, ap, subst, same_Some, none-some, Committed, last_write, Item, Cell, Row}
use Rattle.isolation_laws.proofs.Names.{looked, put_row, Client, State, client_aborted, client_wrote, cell_with, Live}
use Rattle.isolation_laws.proofs.Names.{CellFacts, UnderWayFacts, IsolationInvariant, client_set, AtOpen, WroteOne}
use Rattle.isolation_laws.proofs.Names.{wrote_state, wrote_items, WriteFailed, write_failed_state}
use Rattle.isolation_laws.proofs.OnceEach.{begun_once}
use Rattle.isolation_laws.proofs.Owners.{open_not_pending}
use Rattle.isolation_laws.proofs.Requests.PendingAfter.{fewer_pending}
use Rattle.isolation_laws.proofs.Requests.PendingFewer.{same_served, fewer_is_pending}
use Rattle.isolation_laws.proofs.Requests.ClientsOpen.{aborted_rests}
use Rattle.isolation_laws.proofs.Requests.OpenAfter.{at_work_wrote}
use Rattle.isolation_laws.proofs.Requests.RequestsOfMoves.{opens}
use Rattle.isolation_laws.proofs.Requests.CommitsInFlight.{goes_on}
use Rattle.isolation_laws.proofs.Stores.LiveAfter.{live_by_clients}
use Rattle.isolation_laws.proofs.Stores.Calm.{calm_same, calm_quiet, last_write-own, last_write-elsewhere, write_places_none}
use Rattle.isolation_laws.proofs.Stores.CellsStay.{cells_calm}
use Rattle.isolation_laws.proofs.Stores.CellsMove.{put_cases, IsWrite, cells_put}
use Rattle.isolation_laws.proofs.UnderWay.Works.{all_work, under_way, work_set, KeepsPlaced, work_on, sweeping_on}
use Rattle.isolation_laws.proofs.UnderWay.ClientWorks.{works_aborted, plain_open, works_plain}
use Rattle.isolation_laws.proofs.Stores.StoreMoves.{keeps_same}
use Rattle.isolation_laws.proofs.UnderWay.SessionMoves.{begun_by, open_is, unplaced_of, open_settles_none, under_way_moved}

-- ---- the row of an open transaction is bare
bare_cell_of : (t : ℕ) (value : Option (List ℕ)) (cell : Cell) → Some cell ≡ cell_with t None value → cell.shadow ≡ None
bare_cell_of t None cell is = absurd (none-some cell (sym is))
bare_cell_of t (Some v) cell is = ap (λ (x : Cell). x.shadow) (same_Some _ _ is)

pub bare_row_of : (w : State) (h : List Item) (it : AtOpen w) (t k : ℕ) → IsolationInvariant w h → it.c.entry.start ≡ Some t → (cell : Cell) → looked w.rows k t ≡ Some cell → cell.shadow ≡ None
bare_row_of w h it t k holds start cell found = elim (holds.cells.live.bare t k (inl (open_is w it.session t it.c it.client_at it.is_open start))) [
  | inl bare ↦ bare_cell_of t (last_write h t k) cell (sym found ∙ bare)
  | inr gone ↦ absurd (none-some cell (sym gone.0 ∙ found))
]

-- and no row of a placed one
pub keeps_put : (w : State) (h g : List Item) (k t : ℕ) (value : List ℕ) → IsWrite h g k t → ((d : ℕ) → Committed h t d → ⊥) → ((cell : Cell) → looked w.rows k t ≡ Some cell → cell.shadow ≡ None) → KeepsPlaced w.rows (put_row w.rows k t value) h g
keeps_put w h g k t value writes unplaced bare = record {
  on = writes.on;
  writes = λ u d j placed. writes.others u j (λ p q. unplaced d (subst (λ x. Committed h x d) (sym q) placed));
  shadows = λ u d j placed has. elim (put_cases w.rows k t value j u bare) [
    | inl here ↦ absurd (unplaced d (subst (λ x. Committed h x d) (sym here.1) placed))
    | inr other ↦ (has.0, other.1 ∙ has.1, has.2)
  ];
}

-- ---- a write
wrote_is : (w : State) (h : List Item) (k : WroteOne w) → IsWrite h (h ++ wrote_items w k) k.key k.start
wrote_is w h k = record {
  on = goes_on h (wrote_items w k);
  placed = λ u c placed. write_places_none h k.it.session k.start k.key k.value u c placed;
  others = λ u j other. last_write-elsewhere h k.it.session k.start k.key u j k.value other;
}

pub cells_wrote : (w : State) (h : List Item) (k : WroteOne w) → IsolationInvariant w h → CellFacts (wrote_state w k).clients w.nodes (wrote_state w k).rows w.pairs (h ++ wrote_items w k)
cells_wrote w h k holds = cells_put w.clients (wrote_state w k).clients w.nodes w.nodes w.rows w.pairs h (h ++ wrote_items w k) k.it.session k.key k.start k.value
    (live_by_clients w.clients (wrote_state w k).clients w.nodes (at_work_wrote w k))
    (wrote_is w h k)
    (begun_by w h k.it.session k.start k.it.c holds k.it.client_at k.it.is_open k.start_is)
    (unplaced_of w h k.it.session k.start k.it.c holds k.it.client_at k.it.is_open k.start_is)
    (bare_row_of w h k.it k.start k.key holds k.start_is)
    (λ live. last_write-own h k.it.session k.start k.key k.value)
    holds.cells

pub under_way_wrote : (w : State) (h : List Item) (k : WroteOne w) → IsolationInvariant w h → UnderWayFacts (wrote_state w k).clients w.sweep (wrote_state w k).rows w.pairs (h ++ wrote_items w k)
under_way_wrote w h k holds =
    let g : List Item = h ++ wrote_items w k in
    let writes : IsWrite h g k.key k.start = wrote_is w h k in
    let keeps : KeepsPlaced w.rows (wrote_state w k).rows h g = keeps_put w h g k.key k.start k.value writes (unplaced_of w h k.it.session k.start k.it.c holds k.it.client_at k.it.is_open k.start_is) (bare_row_of w h k.it k.start k.key holds k.start_is) in
    under_way (wrote_state w k).clients w.sweep (wrote_state w k).rows w.pairs g
    (work_set w.clients (wrote_state w k).rows g k.it.session (client_wrote k.it.c k.key)
    (works_plain (wrote_state w k).rows g (client_wrote k.it.c k.key) (plain_open (client_wrote k.it.c k.key) k.it.is_open) (λ x busy. open_settles_none w h k.it.session k.it.c holds k.it.client_at k.it.is_open x busy) (λ j t d offer. absurd (none-some (j, t, d) offer)))
    (work_on w.clients w.rows (wrote_state w k).rows h g keeps writes.placed (all_work w.clients w.sweep w.rows w.pairs h holds.under_way)))
    (sweeping_on w.sweep w.rows (wrote_state w k).rows w.pairs w.pairs h g keeps (λ t marked. marked) holds.under_way.sweeping)

-- ---- a write that failed: its transaction is over
unwritten : (h : List Item) (k t : ℕ) → IsWrite h h k t
unwritten h k t = record { on = λ x m. m; placed = λ u c placed. placed; others = λ u j other. refl }

failed_not_live : (w : State) (h : List Item) (k : WriteFailed w) → IsolationInvariant w h → Live (write_failed_state w k).clients w.nodes k.start → ⊥
failed_not_live w h k holds (inl o) =
    let was = (at_work_after w (OfWriteFailed k) refl).opened o.session k.start o.epoch o.open_at in
    let session : o.session ≡ k.it.session = begun_once h o.session k.it.session k.start holds.isolated.stamped (begun_by w h o.session k.start was.client holds was.at was.state_is was.start_is) (begun_by w h k.it.session k.start k.it.c holds k.it.client_at k.it.is_open k.start_is) in
    elim (client_set w.clients k.it.session o.session (client_aborted (client_wrote k.it.c k.key)) o.open_at.client o.open_at.at) [
      | inl here ↦ (aborted_rests (client_wrote k.it.c k.key)).not_open (ap (λ (x : Client). x.entry.state) (sym here.1) ∙ o.open_at.state_is)
      | inr there ↦ there.0 session
    ]
failed_not_live w h k holds (inr p) = open_not_pending w.nodes w.clients h k.it.session k.start _ holds.isolated.stamped holds.requests.requests holds.requests.pending (begun_by w h k.it.session k.start k.it.c holds k.it.client_at k.it.is_open k.start_is) (opens w k.it.session k.start k.it.c k.it.client_at k.it.is_open k.start_is)
    (fewer_is_pending w.clients (write_failed_state w k).clients w.nodes w.nodes k.start (fewer_pending w.clients (write_failed_state w k).clients w.nodes w.nodes (at_work_after w (OfWriteFailed k) refl).placing (same_served w.nodes)) p)

failed_cells : (w : State) (h : List Item) (k : WriteFailed w) (rows : List Row) → (rows ≡ w.rows) ⊎ (rows ≡ put_row w.rows k.key k.start k.value) → IsolationInvariant w h → CellFacts (write_failed_state w k).clients w.nodes rows w.pairs h
failed_cells w h k rows (inl same) holds = subst (λ (rs : List Row). CellFacts (write_failed_state w k).clients w.nodes rs w.pairs h) (sym same)
    (cells_calm w.clients (write_failed_state w k).clients w.nodes w.nodes w.rows w.pairs h h (λ t live. inl (live_by_clients w.clients (write_failed_state w k).clients w.nodes (at_work_after w (OfWriteFailed k) refl) t live)) (calm_same h) holds.cells)
failed_cells w h k rows (inr put) holds = subst (λ (rs : List Row). CellFacts (write_failed_state w k).clients w.nodes rs w.pairs h) (sym put)
    (cells_put w.clients (write_failed_state w k).clients w.nodes w.nodes w.rows w.pairs h h k.it.session k.key k.start k.value
    (live_by_clients w.clients (write_failed_state w k).clients w.nodes (at_work_after w (OfWriteFailed k) refl))
    (unwritten h k.key k.start)
    (begun_by w h k.it.session k.start k.it.c holds k.it.client_at k.it.is_open k.start_is)
    (unplaced_of w h k.it.session k.start k.it.c holds k.it.client_at k.it.is_open k.start_is)
    (bare_row_of w h k.it k.start k.key holds k.start_is)
    (λ live. absurd (failed_not_live w h k holds live))
    holds.cells)

pub cells_write_failed : (w : State) (h : List Item) (k : WriteFailed w) → IsolationInvariant w h → CellFacts (write_failed_state w k).clients w.nodes k.rows w.pairs (h ++ k.items)
cells_write_failed w h k holds = cells_calm (write_failed_state w k).clients (write_failed_state w k).clients w.nodes w.nodes k.rows w.pairs h (h ++ k.items) (λ t live. inl live) (calm_quiet h k.items k.quiet) (failed_cells w h k k.rows k.rows_are holds)

failed_keeps : (w : State) (h : List Item) (k : WriteFailed w) (rows : List Row) → (rows ≡ w.rows) ⊎ (rows ≡ put_row w.rows k.key k.start k.value) → IsolationInvariant w h → KeepsPlaced w.rows rows h h
failed_keeps w h k rows (inl same) holds = subst (λ (rs : List Row). KeepsPlaced w.rows rs h h) (sym same) (keeps_same w.rows h h (calm_same h))
failed_keeps w h k rows (inr put) holds = subst (λ (rs : List Row). KeepsPlaced w.rows rs h h) (sym put) (keeps_put w h h k.key k.start k.value (unwritten h k.key k.start) (unplaced_of w h k.it.session k.start k.it.c holds k.it.client_at k.it.is_open k.start_is) (bare_row_of w h k.it k.start k.key holds k.start_is))

pub under_way_write_failed : (w : State) (h : List Item) (k : WriteFailed w) → IsolationInvariant w h → UnderWayFacts (write_failed_state w k).clients w.sweep k.rows w.pairs (h ++ k.items)
under_way_write_failed w h k holds = under_way_moved w h (h ++ k.items) k.it.session (client_aborted (client_wrote k.it.c k.key)) k.rows w.pairs holds (failed_keeps w h k k.rows k.rows_are holds) (λ t marked. marked) (calm_quiet h k.items k.quiet)
    (works_aborted k.rows h (client_wrote k.it.c k.key) k.start k.start_is (unplaced_of w h k.it.session k.start k.it.c holds k.it.client_at k.it.is_open k.start_is))
