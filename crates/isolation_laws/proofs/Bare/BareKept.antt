-- Each outcome keeps it that a cell without a shadow is of a session's transaction, or of one that was let go by a fault.
use Rattle.isolation_laws.proofs.Names.{[], ◌≡◌, ℕ, ◌+◌, ◌≤◌, Bool, true, cond, if◌then◌else◌, List, ◌∷◌, ◌++◌, None}
use Rattle.isolation_laws.proofs.Names.{Some, ◌⊎◌, inl, inr, refl, sym, ◌∙◌, ap, subst, arith, slice_set, cases_eq}
use Rattle.isolation_laws.proofs.Names.{same_Some, ◌∈◌, Item, Row, put_row, with_shadow, settle_ask, settle_turn}
use Rattle.isolation_laws.proofs.Names.{Request, UnderWay, Client, State, client_freed, client_aborted, rows_after}
use Rattle.isolation_laws.proofs.Names.{told_by, client_wrote, after_asks, ClientAt, WaitsFor, BareAt, IsOf, IsOwned}
use Rattle.isolation_laws.proofs.Names.{AreOwned, IsolationInvariant, set_found, set_other, one_client, AtOpen}
use Rattle.isolation_laws.proofs.Names.{WriteFailed, write_failed_state, fetched_client, fetched_turn, read_client}
use Rattle.isolation_laws.proofs.Names.{read_turn, ReadDropped, CompletedOne, completed_state, Outcome, OfCrashed}
use Rattle.isolation_laws.proofs.Names.{OfAskedBegin, OfAskedCommit, OfEnded, OfAnsweredBegin, OfAnsweredCommit}
use Rattle.isolation_laws.proofs.Names.{OfHanded, OfOwnPlaced, OfOwnNotPlaced, OfEndedReadOnly, OfWrote, OfWriteFailed}
use Rattle.isolation_laws.proofs.Names.{OfAborted, OfVanished, OfHealed, OfFetched, OfReadDropped, OfReadStepped}
use Rattle.isolation_laws.proofs.Names.{OfOutcome, OfOutcomeFailed, OfCompleted, OfSwept, OfSweepFailed, left_by}
use Rattle.isolation_laws.proofs.Names.{told_by_outcome}
use Rattle.std.proofs.lemmas.List.Sums.{sum_by-append}
use Rattle.system_parts.specs.declared.asks.Ask.TheVariants.{Shadow}
use Rattle.system_parts.specs.declared.session.State.TheVariants as phase
use Rattle.machine.specs.Faults.{is_fault, faults_in}
use Rattle.isolation_laws.proofs.Numbers.Placings.{is_placing_now}
use Rattle.isolation_laws.proofs.Requests.RequestsOfNodes.{waits_for}
use Rattle.isolation_laws.proofs.Stores.CellsMove.{put_cases}
use Rattle.isolation_laws.proofs.Stores.CompletionSteps.{in_none}
use Rattle.isolation_laws.proofs.UnderWay.ClientWorks.{plain_reading}
use Rattle.isolation_laws.proofs.UnderWay.WritesKept.{bare_row_of}
use Rattle.isolation_laws.proofs.UnderWay.SessionMoves.{work_of, start_of}
use Rattle.isolation_laws.proofs.Bare.BareClients.{Has, HasOn, OwnedOn, has_in, free_none, of_work, read_has, aborted_has, wrote_has, has_written, asked_has, begun_has, handed_has, refusal_has, answer_has, placing_answered, settled_has, owned_same, owned_at, owned_set, owned_crashed}
use Rattle.isolation_laws.proofs.Bare.BareRows.{bare_before, bare_if, completion_has}

-- ---- faults
pub faults_on : (h items : List Item) → faults_in (h ++ items) ≡ faults_in h + faults_in items
faults_on h items = sum_by-append (λ (x : Item). cond (is_fault x) 1 0) h items

-- ---- no more cells are bare, and each stays owned
owned_on : (old new : List Client) (rows left : List Row) (h items : List Item) → ((k t : ℕ) → BareAt left k t → BareAt rows k t) → ((k t : ℕ) → BareAt left k t → IsOwned old k t → IsOwned new k t) → AreOwned old rows h → AreOwned new left (h ++ items)
owned_on old new rows left h items fewer stays owned = record {
  lost = owned.lost;
  few = omega (arith, owned.few, faults_on h items);
  each = λ k t b. elim (owned.each k t (fewer k t b)) [
    | inl o ↦ inl (stays k t b o)
    | inr m ↦ inr m
  ];
}

by_clients : (w : State) (h items : List Item) (new : List Client) → OwnedOn w.clients new → IsolationInvariant w h → AreOwned new w.rows (h ++ items)
by_clients w h items new stays holds = owned_on w.clients new w.rows w.rows h items (λ k t b. b) (λ k t b o. stays k t o) holds.owned

by_client : (w : State) (h items : List Item) (s : ℕ) (c new : Client) → ClientAt w.clients s c → HasOn c new → IsolationInvariant w h → AreOwned (slice_set w.clients s new) w.rows (h ++ items)
by_client w h items s c new at keeps holds = by_clients w h items (slice_set w.clients s new) (owned_set w.clients s c new at keeps) holds

by_rows : (w : State) (h items : List Item) (left : List Row) → ((k t : ℕ) → BareAt left k t → BareAt w.rows k t) → IsolationInvariant w h → AreOwned w.clients left (h ++ items)
by_rows w h items left fewer holds = owned_on w.clients w.clients w.rows left h items fewer (λ k t b o. o) holds.owned

-- ---- clients
open_other : phase.Open ≡ phase.Completing true → ⊥
open_other same = cc

outcome_other : phase.OpenOutcome ≡ phase.Completing true → ⊥
outcome_other same = cc

none_wrote : (c new : Client) → c.entry.state ≡ phase.Open → c.entry.keys ≡ [] → HasOn c new
none_wrote c new is none k t of = absurd (in_none k c.entry.keys none (has_in c k t phase.Open is of))

dropped_has : (w : State) (h : List Item) (k : ReadDropped w) → IsolationInvariant w h → HasOn k.c (record k.c { under_way = k.under_way })
dropped_has w h k holds j t of = elim k.under_way_is [
  | inl same ↦ subst (λ (work : UnderWay). IsOf k.c.entry work j t) (sym same.0) of
  | inr reads ↦ of_work k.c.entry k.c.under_way k.under_way j t ((plain_reading w.rows h k.c reads.0.0 (work_of w h k.session k.c holds k.client_at) reads.0.1).not_completing true) of
]

-- ---- a write
put_owned : (w : State) (h items : List Item) (it : AtOpen w) (start key : ℕ) (value : List ℕ) (new : Client) → it.c.entry.start ≡ Some start → HasOn it.c new → Has new key start → IsolationInvariant w h → AreOwned (slice_set w.clients it.session new) (put_row w.rows key start value) (h ++ items)
put_owned w h items it start key value new start_is keeps now holds = record {
  lost = holds.owned.lost;
  few = omega (arith, holds.owned.few, faults_on h items);
  each = λ k t b. elim (put_cases w.rows key start value k t (bare_row_of w h it start key holds start_is)) [
    | inl here ↦ inl (record { session = it.session; client = new; at = set_found w.clients it.session new it.c it.client_at; its = subst (λ (q : ℕ). Has new q t) here.0 (subst (λ (u : ℕ). Has new key u) here.1 now) })
    | inr other ↦ elim (holds.owned.each k t (record { cell = b.cell; there = sym other.1 ∙ b.there; bare = b.bare })) [
      | inl o ↦ inl (owned_set w.clients it.session it.c new it.client_at keeps k t o)
      | inr m ↦ inr m
    ]
  ];
}

failed_has : (w : State) (k : WriteFailed w) → HasOn k.it.c (client_aborted (client_wrote k.it.c k.key))
failed_has w k j t of = aborted_has (client_wrote k.it.c k.key) k.it.is_open j t (wrote_has k.it.c k.key k.it.is_open j t of)

failed_owned : (w : State) (h : List Item) (k : WriteFailed w) (rows : List Row) → (rows ≡ w.rows) ⊎ (rows ≡ put_row w.rows k.key k.start k.value) → IsolationInvariant w h → AreOwned (write_failed_state w k).clients rows (h ++ k.items)
failed_owned w h k rows (inl same) holds = subst (λ (all : List Row). AreOwned (write_failed_state w k).clients all (h ++ k.items)) (sym same) (by_client w h k.items k.it.session k.it.c _ k.it.client_at (failed_has w k) holds)
failed_owned w h k rows (inr put) holds =
    subst (λ (all : List Row). AreOwned (write_failed_state w k).clients all (h ++ k.items)) (sym put)
    (put_owned w h k.items k.it k.start k.key k.value _ k.start_is (failed_has w k) (aborted_has (client_wrote k.it.c k.key) k.it.is_open k.key k.start (has_written k.it.c k.key k.start k.it.is_open k.start_is)) holds)

-- ---- an offered shadow, which may have been set
healed_owned : (w : State) (h : List Item) (it : AtOpen w) (key version commit : ℕ) (applied : Bool) (items : List Item) → IsolationInvariant w h → AreOwned (slice_set w.clients it.session (record it.c { heal = None })) (if applied then with_shadow w.rows key version commit else w.rows) (h ++ items)
healed_owned w h it key version commit applied items holds = owned_on w.clients _ w.rows _ h items
    (λ j t b. bare_if w.rows (Shadow key version commit) applied j t holds.cells.rows_are.ordered b)
    (λ j t b o. owned_set w.clients it.session it.c (record it.c { heal = None }) it.client_at (λ k u of. of) j t o)
    holds.owned

-- ---- a step of a completion: where it fails its transaction is let go
went_owned : (w : State) (h : List Item) (k : CompletedOne w) → IsolationInvariant w h → AreOwned (slice_set w.clients k.session (after_asks k.c k.asks)) (rows_after k.asked w.rows) (h ++ k.items)
went_owned w h k holds = owned_on w.clients _ w.rows (rows_after k.asked w.rows) h k.items
    (λ j t b. bare_before w.rows k.asked j t holds.cells.rows_are.ordered b)
    (λ j t b o. owned_at w.clients k.session k.c (after_asks k.c k.asks) j t k.client_at (completion_has w h k.session k.c k.undo k.asked k.asks j t holds k.client_at k.completing k.under_way b) o)
    holds.owned

in_head : (t u : ℕ) (lost : List ℕ) → t ≡ u → t ∈ (u ∷ lost)
unfolding ◌∈◌
in_head t u lost same = inl same

in_tail : (t u : ℕ) (lost : List ℕ) → t ∈ lost → t ∈ (u ∷ lost)
unfolding ◌∈◌
in_tail t u lost m = inr m

lost_or_owned : (w : State) (k : CompletedOne w) (new : Client) (start j t : ℕ) (lost : List ℕ) → k.c.entry.start ≡ Some start → IsOwned w.clients j t → IsOwned (slice_set w.clients k.session new) j t ⊎ (t ∈ (start ∷ lost))
lost_or_owned w k new start j t lost start_is o = elim (cases_eq o.session k.session) [
  | inl same ↦
      let mine : o.client ≡ k.c = one_client w.clients k.session o.client k.c (subst (λ (r : ℕ). ClientAt w.clients r o.client) same o.at) k.client_at in
      inr (in_head t start lost (same_Some t start (sym o.its.0 ∙ (ap (λ (c : Client). c.entry.start) mine ∙ start_is))))
  | inr other ↦ inl (record { session = o.session; client = o.client; at = set_other w.clients k.session o.session new other ∙ o.at; its = o.its })
]

let_go : (w : State) (h : List Item) (k : CompletedOne w) → 1 ≤ faults_in k.items → IsolationInvariant w h → AreOwned (completed_state w k).clients (completed_state w k).rows (h ++ k.items)
let_go w h k fault holds =
    let start = start_of w h k.session k.c (phase.Completing k.undo) holds k.client_at k.completing refl in
    record {
      lost = start.0 ∷ holds.owned.lost;
      few = omega (arith, holds.owned.few, faults_on h k.items, fault);
      each = λ j t b. elim (holds.owned.each j t (bare_if w.rows k.asked k.applied j t holds.cells.rows_are.ordered b)) [
        | inl o ↦ lost_or_owned w k k.left start.0 j t holds.owned.lost start.1 o
        | inr m ↦ inr (in_tail t start.0 holds.owned.lost m)
      ];
    }

completed_owned : (w : State) (h : List Item) (k : CompletedOne w) → IsolationInvariant w h → AreOwned (completed_state w k).clients (completed_state w k).rows (h ++ k.items)
completed_owned w h k holds = elim k.left_is [
  | inl goes ↦
      subst (λ (b : Bool). AreOwned (slice_set w.clients k.session k.left) (if b then rows_after k.asked w.rows else w.rows) (h ++ k.items)) (sym goes.1)
      (subst (λ (new : Client). AreOwned (slice_set w.clients k.session new) (rows_after k.asked w.rows) (h ++ k.items)) (sym goes.0) (went_owned w h k holds))
  | inr freed ↦ let_go w h k freed.1 holds
]

-- ---- all outcomes
pub owned_kept : (w : State) (h : List Item) (o : Outcome w) → IsolationInvariant w h → AreOwned (left_by w o).clients (left_by w o).rows (h ++ told_by_outcome w o)
owned_kept w h (OfCrashed k) holds = by_clients w h k.items _ (owned_crashed k.i.requests w.clients (λ s c held at has. waits_for w h k.node s k.i held c holds k.at has at)) holds
owned_kept w h (OfAskedBegin k) holds = by_client w h _ k.session k.c _ k.client_at (λ j t of. absurd (free_none k.c j t k.free of)) holds
owned_kept w h (OfAskedCommit k) holds = by_client w h k.items k.session k.c _ k.client_at (asked_has k.c k.is_open) holds
owned_kept w h (OfEnded k) holds = by_client w h k.items k.session k.c _ k.client_at (refusal_has k.held.request k.c (waits_for w h k.node k.session k.i k.held k.c holds k.at k.has k.client_at)) holds
owned_kept w h (OfAnsweredBegin k) holds =
    by_client w h _ k.session k.c _ k.client_at (begun_has k.c k.asker k.start k.i.epoch (subst (λ (r : Request). WaitsFor r k.c) k.request_is (waits_for w h k.node k.session k.i k.held k.c holds k.at k.has k.client_at))) holds
owned_kept w h (OfAnsweredCommit k) holds =
    by_client w h k.items k.session k.c _ k.client_at (answer_has k.by k.c k.commit k.asker k.start k.keys (subst (λ (r : Request). WaitsFor r k.c) k.request_is (waits_for w h k.node k.session k.i k.held k.c holds k.at k.has k.client_at))) holds
owned_kept w h (OfHanded k) holds =
    by_client w h k.items k.session k.c _ k.client_at (handed_has k.c k.commit k.asker k.start k.keys (subst (λ (r : Request). WaitsFor r k.c) k.request_is (waits_for w h k.node k.session k.i k.held k.c holds k.at k.has k.client_at))) holds
owned_kept w h (OfOwnPlaced k) holds = by_client w h _ k.it.session k.it.c _ k.it.client_at (placing_answered k.by k.it.c k.it.commit (is_placing_now w k.it)) holds
owned_kept w h (OfOwnNotPlaced k) holds = by_client w h k.items k.it.session k.it.c _ k.it.client_at (placing_answered k.by k.it.c k.it.commit (is_placing_now w k.it)) holds
owned_kept w h (OfEndedReadOnly k) holds = by_client w h k.items k.it.session k.it.c _ k.it.client_at (none_wrote k.it.c (client_freed k.it.c) k.it.is_open k.none) holds
owned_kept w h (OfWrote k) holds = put_owned w h _ k.it k.start k.key k.value _ k.start_is (wrote_has k.it.c k.key k.it.is_open) (has_written k.it.c k.key k.start k.it.is_open k.start_is) holds
owned_kept w h (OfWriteFailed k) holds = failed_owned w h k k.rows k.rows_are holds
owned_kept w h (OfAborted k) holds = by_client w h k.items k.it.session k.it.c _ k.it.client_at (aborted_has k.it.c k.it.is_open) holds
owned_kept w h (OfVanished k) holds = by_client w h k.items k.session k.c _ k.client_at (λ j t of. (of.0, tt)) holds
owned_kept w h (OfHealed k) holds = healed_owned w h k.it k.key k.version k.commit k.applied k.items holds
owned_kept w h (OfFetched k) holds = by_client w h _ k.it.session k.it.c _ k.it.client_at (read_has (fetched_client w k) (fetched_turn w k) (λ other. open_other (sym k.it.is_open ∙ other))) holds
owned_kept w h (OfReadDropped k) holds = by_client w h k.items k.session k.c _ k.client_at (dropped_has w h k holds) holds
owned_kept w h (OfReadStepped k) holds = by_client w h _ k.session k.c _ k.client_at (read_has (read_client w k) (read_turn w k) ((plain_reading w.rows h k.c k.r (work_of w h k.session k.c holds k.client_at) k.under_way).not_completing true)) holds
owned_kept w h (OfOutcome k) holds = by_client w h k.items k.it.session k.it.c _ k.it.client_at (settled_has k.it.c k.x (settle_turn k.x (told_by (settle_ask k.x) w.rows w.pairs)) k.it.is_open) holds
owned_kept w h (OfOutcomeFailed k) holds = by_client w h k.items k.it.session k.it.c _ k.it.client_at (λ j t of. of_work k.it.c.entry k.it.c.under_way _ j t (λ other. outcome_other (sym k.it.is_open ∙ other)) of) holds
owned_kept w h (OfCompleted k) holds = completed_owned w h k holds
owned_kept w h (OfSwept k) holds = by_rows w h k.items _ (λ j t b. bare_before w.rows k.asked j t holds.cells.rows_are.ordered b) holds
owned_kept w h (OfSweepFailed k) holds = by_rows w h k.items _ (λ j t b. bare_if w.rows k.asked k.applied j t holds.cells.rows_are.ordered b) holds
owned_kept w h _ holds = by_clients w h _ w.clients (owned_same w.clients) holds
