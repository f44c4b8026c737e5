-- What outcomes leave of requests and sessions, where one client alone changes.
use Rattle.isolation_laws.proofs.Requests.ClientMoves.{at_work_after}
use Rattle.isolation_laws.proofs.Names.{OfAborted, OfCompleted, OfEndedReadOnly, OfHealed, OfOutcome, OfOutcomeFailed}
use Rattle.isolation_laws.proofs.Names.{OfWriteFailed, ◌≡◌, ℕ, IsTrue, List, ◌⊎◌, inl, inr, refl, sym, ◌∙◌, ap, subst}
use Rattle.isolation_laws.proofs.Names.{slice_set, same_Some, Item, SessionState, has_transaction, SettleTurn}
use Rattle.isolation_laws.proofs.Names.{settle_ask, settle_turn, Progress, Request, Commit, InstanceEntry, Client}
use Rattle.isolation_laws.proofs.Names.{State, told_by, client_freed, client_aborted, client_vanished, client_read}
use Rattle.isolation_laws.proofs.Names.{client_settled, client_wrote, InstanceAt, HeldBy, ClientAt, WaitsFor}
use Rattle.isolation_laws.proofs.Names.{AreRequests, HasAsked, IsolationInvariant, EndedReadOnly, read_only_state}
use Rattle.isolation_laws.proofs.Names.{WriteFailed, write_failed_state, Aborted, aborted_state, Vanished}
use Rattle.isolation_laws.proofs.Names.{vanished_state, Healed, healed_state, Fetched, fetched_turn, fetched_client}
use Rattle.isolation_laws.proofs.Names.{fetched_state, ReadDropped, read_dropped_state, read_turn, read_client}
use Rattle.isolation_laws.proofs.Names.{ReadStepped, read_stepped_state, OutcomeStepped, outcome_state, OutcomeFailed}
use Rattle.isolation_laws.proofs.Names.{outcome_failed_state, CompletedOne, completed_state}
use Rattle.system_parts.specs.declared.session.State.TheVariants as phase
use Rattle.system_parts.specs.declared.instance.Request.TheVariants.{Begin}
use Rattle.isolation_laws.proofs.Requests.ClientsOpen.{FewerAtWork, read_keeps_entry}
use Rattle.isolation_laws.proofs.Requests.OpenAfter.{at_work_vanished, at_work_fetched, at_work_dropped, at_work_read}
use Rattle.isolation_laws.proofs.Requests.ClientsAfter.{begun_kept, KeepsStart, has_none, has_by, aborted_keeps, freed_keeps, settled_keeps, asks_keep, KeysClient, keys_client, keys_set, keys_closed, gone_closed, keys_aborted, keys_freed, keys_settled, keys_asks}
use Rattle.isolation_laws.proofs.Requests.RequestsAfter.{WaitsForNone, open_waits, outcome_waits, completing_waits, requests_client, requests_idle}
use Rattle.isolation_laws.proofs.Requests.Standing.{standing_same}
use Rattle.isolation_laws.proofs.Requests.CommitsInFlight.{IsSettledNow, IsAcceptedNow, IsDrawnNow}
use Rattle.isolation_laws.proofs.Requests.RequestsKept.{Leaves, form_fewer}
use Rattle.isolation_laws.proofs.Requests.ClientsBecome.{Becomes}
use Rattle.isolation_laws.proofs.Requests.PendingAfter.{fewer_pending}
use Rattle.isolation_laws.proofs.Requests.PendingFewer.{same_served}

-- a client changed, and its requests still fit it
pub leaves_client : (w : State) (h : List Item) (s : ℕ) (c new : Client) → ClientAt w.clients s c → Becomes h s c new → FewerAtWork w.clients (slice_set w.clients s new) → AreRequests w.nodes (slice_set w.clients s new) → IsolationInvariant w h → Leaves w h w.nodes (slice_set w.clients s new)
leaves_client w h s c new client becomes work requests holds = record {
  have_begun = begun_kept w.clients h s c new client becomes.begun holds.requests.have_begun;
  requests = requests;
  starting = standing_same IsDrawnNow w.nodes;
  pending = fewer_pending w.clients (slice_set w.clients s new) w.nodes w.nodes work.placing (same_served w.nodes);
  settled = standing_same IsSettledNow w.nodes;
  accepted = standing_same IsAcceptedNow w.nodes;
  opened = work.opened;
  keys = keys_set w.clients h s new becomes.keys holds.requests.keys;
  form = form_fewer w.setup w.clients (slice_set w.clients s new) w.nodes w.nodes (standing_same IsDrawnNow w.nodes) work.placing holds.requests.form;
}

-- a client that waits for no request changed
pub leaves_idle : (w : State) (h : List Item) (s : ℕ) (c new : Client) (state : SessionState) → ClientAt w.clients s c → c.entry.state ≡ state → WaitsForNone state → Becomes h s c new → FewerAtWork w.clients (slice_set w.clients s new) → IsolationInvariant w h → Leaves w h w.nodes (slice_set w.clients s new)
leaves_idle w h s c new state client is none becomes work holds =
    leaves_client w h s c new client becomes work (requests_idle w.nodes w.clients s c new state client is none holds.requests.requests) holds

open_has : (c : Client) → c.entry.state ≡ phase.Open → IsTrue (has_transaction c.entry.state)
open_has c is = has_by c.entry.state phase.Open is refl

outcome_has : (c : Client) → c.entry.state ≡ phase.OpenOutcome → IsTrue (has_transaction c.entry.state)
outcome_has c is = has_by c.entry.state phase.OpenOutcome is refl

-- the entry stays
same_entry : (h : List Item) (s : ℕ) (old new : Client) → new.entry ≡ old.entry → KeysClient h old → Becomes h s old new
same_entry h s old new same keys = record {
  begun = λ has. (subst (λ e. IsTrue (has_transaction e.state)) same has, ap (λ e. e.start) same);
  keys = record {
    written = λ t is start. ap (λ e. e.keys) same ∙ keys.written t (subst (λ e. (e.state ≡ phase.Open) ⊎ HasAsked e.state) same is) (sym (ap (λ e. e.start) same) ∙ start);
    some = λ asked. λ none. keys.some (subst (λ e. HasAsked e.state) same asked) (sym (ap (λ e. e.keys) same) ∙ none);
  };
}

keys_of : (w : State) (h : List Item) (s : ℕ) (c : Client) → IsolationInvariant w h → ClientAt w.clients s c → KeysClient h c
keys_of w h s c holds at = keys_client w.clients h s c holds.requests.keys at

-- ---- an open transaction
pub leaves_read_only : (w : State) (h : List Item) (k : EndedReadOnly w) → IsolationInvariant w h → Leaves w h w.nodes (read_only_state w k).clients
leaves_read_only w h k holds = leaves_idle w h k.it.session k.it.c (client_freed k.it.c) phase.Open k.it.client_at k.it.is_open open_waits (record { begun = freed_keeps k.it.c; keys = keys_freed h k.it.c }) (at_work_after w (OfEndedReadOnly k) refl) holds

write_keeps : (c : Client) (key : ℕ) → IsTrue (has_transaction c.entry.state) → KeepsStart c (client_aborted (client_wrote c key))
write_keeps c key had has = aborted_keeps (client_wrote c key) had has

pub leaves_write_failed : (w : State) (h : List Item) (k : WriteFailed w) → IsolationInvariant w h → Leaves w h w.nodes (write_failed_state w k).clients
leaves_write_failed w h k holds = leaves_idle w h k.it.session k.it.c (client_aborted (client_wrote k.it.c k.key)) phase.Open k.it.client_at k.it.is_open open_waits (record { begun = write_keeps k.it.c k.key (open_has k.it.c k.it.is_open); keys = keys_aborted h (client_wrote k.it.c k.key) }) (at_work_after w (OfWriteFailed k) refl) holds

pub leaves_aborted : (w : State) (h : List Item) (k : Aborted w) → IsolationInvariant w h → Leaves w h w.nodes (aborted_state w k).clients
leaves_aborted w h k holds = leaves_idle w h k.it.session k.it.c (client_aborted k.it.c) phase.Open k.it.client_at k.it.is_open open_waits (record { begun = aborted_keeps k.it.c (open_has k.it.c k.it.is_open); keys = keys_aborted h k.it.c }) (at_work_after w (OfAborted k) refl) holds

pub leaves_healed : (w : State) (h : List Item) (k : Healed w) → IsolationInvariant w h → Leaves w h w.nodes (healed_state w k).clients
leaves_healed w h k holds = leaves_idle w h k.it.session k.it.c _ phase.Open k.it.client_at k.it.is_open open_waits (same_entry h k.it.session k.it.c _ refl (keys_of w h k.it.session k.it.c holds k.it.client_at)) (at_work_after w (OfHealed k) refl) holds

pub leaves_fetched : (w : State) (h : List Item) (k : Fetched w) → IsolationInvariant w h → Leaves w h w.nodes (fetched_state w k).clients
leaves_fetched w h k holds = leaves_idle w h k.it.session k.it.c (client_read (fetched_client w k) (fetched_turn w k)) phase.Open k.it.client_at k.it.is_open open_waits (same_entry h k.it.session k.it.c _ (read_keeps_entry (fetched_client w k) (fetched_turn w k)) (keys_of w h k.it.session k.it.c holds k.it.client_at)) (at_work_fetched w k) holds

-- ---- any session: its requests wait for the same state
waits_same : (request : Request) (old new : Client) → new.entry ≡ old.entry → WaitsFor request old → WaitsFor request new
waits_same (Begin s) old new same (inl gone) = inl (ap (λ e. e.state) same ∙ gone)
waits_same (Begin s) old new same (inr asking) = inr (ap (λ e. e.state) same ∙ asking)
waits_same (Commit s t keys) old new same (inl gone) = inl (ap (λ e. e.state) same ∙ gone)
waits_same (Commit s t keys) old new same (inr asked) = inr (ap (λ e. e.state) same ∙ asked.0, ap (λ e. e.start) same ∙ asked.1)

held_waits : (w : State) (h : List Item) (s : ℕ) (c : Client) → IsolationInvariant w h → ClientAt w.clients s c → (n : ℕ) (i : InstanceEntry) (request : Request) (p : Progress) → InstanceAt w.nodes n i → HeldBy i s request p → WaitsFor request c
held_waits w h s c holds client n i request p at held =
    let waiting = holds.requests.requests.waits n s i request p at held in
    subst (λ (x : Client). WaitsFor request x) (same_Some waiting.0 c (sym waiting.1 ∙ client)) waiting.2

leaves_same : (w : State) (h : List Item) (s : ℕ) (c new : Client) → ClientAt w.clients s c → new.entry ≡ c.entry → FewerAtWork w.clients (slice_set w.clients s new) → IsolationInvariant w h → Leaves w h w.nodes (slice_set w.clients s new)
leaves_same w h s c new client same work holds =
    leaves_client w h s c new client (same_entry h s c new same (keys_of w h s c holds client)) work
    (requests_client w.nodes w.clients s c new client (λ n i request p at held. waits_same request c new same (held_waits w h s c holds client n i request p at held)) holds.requests.requests) holds

pub leaves_dropped : (w : State) (h : List Item) (k : ReadDropped w) → IsolationInvariant w h → Leaves w h w.nodes (read_dropped_state w k).clients
leaves_dropped w h k holds = leaves_same w h k.session k.c _ k.client_at refl (at_work_dropped w k) holds

pub leaves_read : (w : State) (h : List Item) (k : ReadStepped w) → IsolationInvariant w h → Leaves w h w.nodes (read_stepped_state w k).clients
leaves_read w h k holds = leaves_same w h k.session k.c (client_read (read_client w k) (read_turn w k)) k.client_at (read_keeps_entry (read_client w k) (read_turn w k)) (at_work_read w k) holds

vanished_waits : (request : Request) (c : Client) → c.entry.state ≡ phase.Gone → WaitsFor request c
vanished_waits (Begin s) c gone = inl gone
vanished_waits (Commit s t keys) c gone = inl gone

pub leaves_vanished : (w : State) (h : List Item) (k : Vanished w) → IsolationInvariant w h → Leaves w h w.nodes (vanished_state w k).clients
leaves_vanished w h k holds =
    leaves_client w h k.session k.c (client_vanished k.c) k.client_at
    (record { begun = λ has. absurd (has_none phase.Gone (inr (inr refl)) has); keys = keys_closed h (client_vanished k.c) gone_closed }) (at_work_vanished w k)
    (requests_client w.nodes w.clients k.session k.c (client_vanished k.c) k.client_at (λ n i request p at held. vanished_waits request (client_vanished k.c) refl) holds.requests.requests) holds

-- ---- an open outcome, and a completion
pub leaves_outcome : (w : State) (h : List Item) (k : OutcomeStepped w) → IsolationInvariant w h → Leaves w h w.nodes (outcome_state w k).clients
leaves_outcome w h k holds =
    let turn : SettleTurn = settle_turn k.x (told_by (settle_ask k.x) w.rows w.pairs) in
    leaves_idle w h k.it.session k.it.c (client_settled k.it.c k.x turn) phase.OpenOutcome k.it.client_at k.it.is_open outcome_waits
    (record { begun = settled_keeps k.it.c k.x turn (outcome_has k.it.c k.it.is_open); keys = keys_settled h k.it.c k.x turn (keys_of w h k.it.session k.it.c holds k.it.client_at) }) (at_work_after w (OfOutcome k) refl) holds

pub leaves_outcome_failed : (w : State) (h : List Item) (k : OutcomeFailed w) → IsolationInvariant w h → Leaves w h w.nodes (outcome_failed_state w k).clients
leaves_outcome_failed w h k holds = leaves_same w h k.it.session k.it.c _ k.it.client_at refl (at_work_after w (OfOutcomeFailed k) refl) holds

completed_becomes : (w : State) (h : List Item) (k : CompletedOne w) → IsolationInvariant w h → Becomes h k.session k.c k.left
completed_becomes w h k holds = elim k.left_is [
  | inl goes ↦ subst (λ (x : Client). Becomes h k.session k.c x) (sym goes.0) (record { begun = asks_keep k.c k.asks; keys = keys_asks h k.c k.asks (keys_of w h k.session k.c holds k.client_at) })
  | inr freed ↦ subst (λ (x : Client). Becomes h k.session k.c x) (sym freed.0) (record { begun = freed_keeps k.c; keys = keys_freed h k.c })
]

pub leaves_completed : (w : State) (h : List Item) (k : CompletedOne w) → IsolationInvariant w h → Leaves w h w.nodes (completed_state w k).clients
leaves_completed w h k holds = leaves_idle w h k.session k.c k.left (phase.Completing k.undo) k.client_at k.completing (completing_waits k.undo) (completed_becomes w h k holds) (at_work_after w (OfCompleted k) refl) holds
