-- What a session's client is before its next event, and what all clients have under way after a quiet one.
use Rattle.isolation_laws.proofs.Names.{◌≡◌, ℕ, Bool, IsTrue, List, Some, inl, inr, sym, ◌∙◌, ap, subst, slice_set}
use Rattle.isolation_laws.proofs.Names.{Committed, Item, Row, Pairs, entry_stays-put_pair, InvalidMark, SessionState}
use Rattle.isolation_laws.proofs.Names.{has_transaction, Settling, Settles, Client, State, ClientAt, Begun, Marked}
use Rattle.isolation_laws.proofs.Names.{Live, IsOpen, CellFacts, UnderWayFacts, IsolationInvariant, one_client}
use Rattle.isolation_laws.proofs.Names.{MayHaveMarked}
use Rattle.system_parts.specs.declared.session.State.TheVariants as phase
use Rattle.isolation_laws.proofs.OnceEach.{begun_once}
use Rattle.isolation_laws.proofs.Owners.{NoneInFlight, not_in_flight, open_unplaced}
use Rattle.isolation_laws.proofs.Numbers.NumbersKept.{open_begun}
use Rattle.isolation_laws.proofs.Requests.RequestsOfMoves.{opens}
use Rattle.isolation_laws.proofs.Requests.ClientsAfter.{has_by}
use Rattle.isolation_laws.proofs.Stores.Calm.{Calm, calm_same}
use Rattle.isolation_laws.proofs.Stores.CellsStay.{cells_pairs, marking_moves}
use Rattle.isolation_laws.proofs.UnderWay.Works.{Works, AllWork, all_work, under_way, work_set, KeepsPlaced, work_on, sweeping_on}
use Rattle.isolation_laws.proofs.Stores.StoreMoves.{keeps_same, keeps_more}

pub work_of : (w : State) (h : List Item) (s : ℕ) (c : Client) → IsolationInvariant w h → ClientAt w.clients s c → Works w.rows h c
work_of w h s c holds at = all_work w.clients w.sweep w.rows w.pairs h holds.under_way s c at

-- an open session has begun its transaction, which is not placed
pub begun_by : (w : State) (h : List Item) (s t : ℕ) (c : Client) → IsolationInvariant w h → ClientAt w.clients s c → c.entry.state ≡ phase.Open → c.entry.start ≡ Some t → Begun h s t
begun_by w h s t c holds at is start = open_begun w.clients h s t c holds.requests.have_begun at is start

pub open_is : (w : State) (s t : ℕ) (c : Client) → ClientAt w.clients s c → c.entry.state ≡ phase.Open → c.entry.start ≡ Some t → IsOpen w.clients t
open_is w s t c at is start = record { session = s; epoch = _; open_at = opens w s t c at is start }

pub unplaced_of : (w : State) (h : List Item) (s t : ℕ) (c : Client) → IsolationInvariant w h → ClientAt w.clients s c → c.entry.state ≡ phase.Open → c.entry.start ≡ Some t → (d : ℕ) → Committed h t d → ⊥
unplaced_of w h s t c holds at is start d placed = open_unplaced w.clients h t d holds.numbers.placed holds.requests.opened (open_is w s t c at is start) placed

-- one with a transaction has its start
pub start_of : (w : State) (h : List Item) (s : ℕ) (c : Client) (state : SessionState) → IsolationInvariant w h → ClientAt w.clients s c → c.entry.state ≡ state → IsTrue (has_transaction state) → (t : ℕ) × (c.entry.start ≡ Some t) × Begun h s t
start_of w h s c state holds at is has = holds.requests.have_begun.begun s c at (has_by c.entry.state state is has)

open_is_outcome : phase.Open ≡ phase.OpenOutcome → ⊥
open_is_outcome same = cc

pub open_settles_none : (w : State) (h : List Item) (s : ℕ) (c : Client) → IsolationInvariant w h → ClientAt w.clients s c → c.entry.state ≡ phase.Open → (x : Settling) → c.under_way ≡ Settles x → ⊥
open_settles_none w h s c holds at is x busy = open_is_outcome (sym is ∙ (work_of w h s c holds at).only x busy)

-- what a session completes is not live
open_is_completing : (undo : Bool) → phase.Open ≡ phase.Completing undo → ⊥
open_is_completing undo same = cc

pub completing_in_none : (undo : Bool) → NoneInFlight (phase.Completing undo)
completing_in_none undo = record { gone = λ is. cc; committing = λ is. cc; placing = λ is. cc }

pub completing_not_live : (w : State) (h : List Item) (s t : ℕ) (c : Client) (undo : Bool) → IsolationInvariant w h → ClientAt w.clients s c → c.entry.state ≡ phase.Completing undo → Begun h s t → Live w.clients w.nodes t → ⊥
completing_not_live w h s t c undo holds at is begun (inl o) =
    let session : o.session ≡ s = begun_once h o.session s t holds.isolated.stamped (begun_by w h o.session t o.open_at.client holds o.open_at.at o.open_at.state_is o.open_at.start_is) begun in
    let same : o.open_at.client ≡ c = one_client w.clients s o.open_at.client c (subst (λ r. ClientAt w.clients r o.open_at.client) session o.open_at.at) at in
    open_is_completing undo (sym o.open_at.state_is ∙ (ap (λ (x : Client). x.entry.state) same ∙ is))
completing_not_live w h s t c undo holds at is begun (inr p) = not_in_flight w.nodes w.clients h (phase.Completing undo) s t c holds.isolated.stamped holds.requests.requests holds.requests.pending at is (completing_in_none undo) begun p

-- ---- the table may have got a mark
pub cells_may_mark : (w : State) (h : List Item) (pairs : Pairs) → IsolationInvariant w h → MayHaveMarked w.pairs pairs → CellFacts w.clients w.nodes w.rows pairs h
cells_may_mark w h pairs holds (inl same) = subst (λ (all : Pairs). CellFacts w.clients w.nodes w.rows all h) (sym same) holds.cells
cells_may_mark w h pairs holds (inr (t, is)) = subst (λ (all : Pairs). CellFacts w.clients w.nodes w.rows all h) (sym is) (cells_pairs w.clients w.nodes w.rows w.pairs _ h (marking_moves w.rows w.pairs h t) holds.cells)

pub marks_may_mark : (old new : Pairs) → MayHaveMarked old new → (u : ℕ) → Marked old u → Marked new u
marks_may_mark old new (inl same) u marked = subst (λ (all : Pairs). Marked all u) (sym same) marked
marks_may_mark old new (inr (t, is)) u marked = subst (λ (all : Pairs). Marked all u) (sym is) (entry_stays-put_pair old t u InvalidMark InvalidMark marked)

-- ---- all clients after a quiet event
pub under_way_calm : (w : State) (h g : List Item) (clients : List Client) (rows : List Row) (pairs : Pairs) → IsolationInvariant w h → KeepsPlaced w.rows rows h h → ((t : ℕ) → Marked w.pairs t → Marked pairs t) → Calm h g → AllWork clients rows h → UnderWayFacts clients w.sweep rows pairs g
under_way_calm w h g clients rows pairs holds keeps marks calm work = under_way clients w.sweep rows pairs g
    (work_on clients rows rows h g (keeps_same rows h g calm) calm.placed work)
    (sweeping_on w.sweep w.rows rows w.pairs pairs h g (keeps_more w.rows rows h g keeps calm) marks holds.under_way.sweeping)

-- the same clients
pub work_kept : (w : State) (h : List Item) (rows : List Row) → IsolationInvariant w h → KeepsPlaced w.rows rows h h → AllWork w.clients rows h
work_kept w h rows holds keeps = work_on w.clients w.rows rows h h keeps (λ t d is. is) (all_work w.clients w.sweep w.rows w.pairs h holds.under_way)

-- nothing changed but the history
pub under_way_same : (w : State) (h g : List Item) → IsolationInvariant w h → Calm h g → UnderWayFacts w.clients w.sweep w.rows w.pairs g
under_way_same w h g holds calm = under_way_calm w h g w.clients w.rows w.pairs holds (keeps_same w.rows h h (calm_same h)) (λ t marked. marked) calm (all_work w.clients w.sweep w.rows w.pairs h holds.under_way)

-- one client changed, and the stores
pub under_way_moved : (w : State) (h g : List Item) (s : ℕ) (new : Client) (rows : List Row) (pairs : Pairs) → IsolationInvariant w h → KeepsPlaced w.rows rows h h → ((t : ℕ) → Marked w.pairs t → Marked pairs t) → Calm h g → Works rows h new → UnderWayFacts (slice_set w.clients s new) w.sweep rows pairs g
under_way_moved w h g s new rows pairs holds keeps marks calm works = under_way_calm w h g (slice_set w.clients s new) rows pairs holds keeps marks calm (work_set w.clients rows h s new works (work_kept w h rows holds keeps))

-- one client changed
pub under_way_client : (w : State) (h g : List Item) (s : ℕ) (new : Client) → IsolationInvariant w h → Calm h g → Works w.rows h new → UnderWayFacts (slice_set w.clients s new) w.sweep w.rows w.pairs g
under_way_client w h g s new holds calm works = under_way_moved w h g s new w.rows w.pairs holds (keeps_same w.rows h h (calm_same h)) (λ t marked. marked) calm works
