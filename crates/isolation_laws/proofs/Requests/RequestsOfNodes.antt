-- What outcomes leave of requests and sessions, where nodes change: the record's, a crash, an ask, the end of a request.
use Rattle.isolation_laws.proofs.Requests.ClientMoves.{at_work_after}
use Rattle.isolation_laws.proofs.Names.{OfAnsweredCommit, OfAskedBegin, OfCrashed, OfEnded, Option, ◌≡◌, ℕ, List, Some}
use Rattle.isolation_laws.proofs.Names.{◌⊎◌, inl, inr, refl, sym, ◌∙◌, ap, subst, Progress, slice_set, Item}
use Rattle.isolation_laws.proofs.Names.{asked_state, Held, Request, Commit, InstanceEntry, held_of, without_request}
use Rattle.isolation_laws.proofs.Names.{Client, State, client_asked, unless_gone, after_refusal, InstanceAt, ClientAt}
use Rattle.isolation_laws.proofs.Names.{HaveBegun, WaitsFor, HasAsked, AreKeys, IsolationInvariant, held_by, one_client}
use Rattle.isolation_laws.proofs.Names.{Still, still_state, Granted, granted_state, Renewed, renewed_state, Extended}
use Rattle.isolation_laws.proofs.Names.{extended_state, Crashed, crashed_state, AskedBegin, asked_begin_state, Ended}
use Rattle.isolation_laws.proofs.Names.{ended_state, AnsweredCommit, answered_client, answered_commit_state}
use Rattle.system_parts.specs.declared.session.State.TheVariants as phase
use Rattle.system_parts.specs.declared.instance.Request.TheVariants.{Begin}
use Rattle.isolation_laws.proofs.Requests.PendingAfter.{FewerServed, fewer_pending}
use Rattle.isolation_laws.proofs.Requests.PendingFewer.{fewer_still, fewer_granted, fewer_renewed, fewer_extended, fewer_crashed, pending_asked_begin, fewer_ended_one, fewer_answered_commit, same_served}
use Rattle.isolation_laws.proofs.Requests.ClientsOpen.{FewerAtWork, same_at_work}
use Rattle.isolation_laws.proofs.Requests.OpenAfter.{crashed_at}
use Rattle.isolation_laws.proofs.Requests.ClientsAfter.{BegunClient, begun_set, begun_kept, has_none, KeysClient, keys_client, keys_set, keys_closed, asking_closed}
use Rattle.isolation_laws.proofs.Requests.RequestsAfter.{requests_fewer, free_waits, requests_over, requests_crashed, new_held, requests_new, FewerHeld}
use Rattle.isolation_laws.proofs.Requests.Standing.{standing_alike, held_alike, standing_ended, standing_granted, held_granted, standing_renewed, held_renewed, standing_extended, held_extended, standing_asked_begin, standing_over, held_same, standing_same}
use Rattle.isolation_laws.proofs.Requests.CommitsInFlight.{IsSettledNow, IsAcceptedNow, IsDrawnNow, FewerStanding}
use Rattle.isolation_laws.proofs.Requests.RequestsKept.{Leaves, form_fewer}
use Rattle.isolation_laws.proofs.Requests.ClientsBecome.{Becomes, becomes_same, loss_becomes, refusal_becomes, answer_becomes}

-- ---- the record, and what changes nothing
-- nodes that hold the same requests or fewer, for the same clients
leaves_nodes : (w : State) (h : List Item) (nodes : List (Option InstanceEntry)) → FewerHeld w.nodes nodes → ((P : Progress → Type 0) → FewerStanding P w.nodes nodes) → FewerServed w.nodes nodes → IsolationInvariant w h → Leaves w h nodes w.clients
leaves_nodes w h nodes held standing pending holds = record {
  have_begun = holds.requests.have_begun;
  requests = requests_fewer w.nodes nodes w.clients held holds.requests.requests;
  starting = standing IsDrawnNow;
  pending = fewer_pending w.clients w.clients w.nodes nodes (same_at_work w.clients).placing pending;
  settled = standing IsSettledNow;
  accepted = standing IsAcceptedNow;
  opened = (same_at_work w.clients).opened;
  keys = holds.requests.keys;
  form = form_fewer w.setup w.clients w.clients w.nodes nodes (standing IsDrawnNow) (same_at_work w.clients).placing holds.requests.form;
}

pub leaves_alone : (w : State) (h : List Item) → IsolationInvariant w h → Leaves w h w.nodes w.clients
leaves_alone w h holds = leaves_nodes w h w.nodes (held_same w.nodes) (λ P. standing_same P w.nodes) (same_served w.nodes) holds

pub leaves_still : (w : State) (h : List Item) (k : Still w) → IsolationInvariant w h → Leaves w h (still_state w k).nodes w.clients
leaves_still w h k holds = leaves_nodes w h k.nodes (held_alike w.nodes k.nodes k.alike) (λ P. standing_alike P w.nodes k.nodes k.alike) (fewer_still w k) holds

pub leaves_granted : (w : State) (h : List Item) (k : Granted w) → IsolationInvariant w h → Leaves w h (granted_state w k).nodes w.clients
leaves_granted w h k holds = leaves_nodes w h (granted_state w k).nodes (held_granted w k) (λ P. standing_granted P w k) (fewer_granted w k) holds

pub leaves_renewed : (w : State) (h : List Item) (k : Renewed w) → IsolationInvariant w h → Leaves w h (renewed_state w k).nodes w.clients
leaves_renewed w h k holds = leaves_nodes w h (renewed_state w k).nodes (held_renewed w k) (λ P. standing_renewed P w k) (fewer_renewed w k) holds

pub leaves_extended : (w : State) (h : List Item) (k : Extended w) → IsolationInvariant w h → Leaves w h (extended_state w k).nodes w.clients
leaves_extended w h k holds = leaves_nodes w h (extended_state w k).nodes (held_extended w k) (λ P. standing_extended P w k) (fewer_extended w k) holds

-- ---- a crash
crash_becomes : (w : State) (h : List Item) (k : Crashed w) (s : ℕ) (c : Client) → IsolationInvariant w h → ClientAt (crashed_state w k).clients s c → (old : Client) × ClientAt w.clients s old × Becomes h s old c
crash_becomes w h k s c holds at =
    let was = crashed_at k.i.requests w.clients s c at in
    let keys : KeysClient h was.0 = keys_client w.clients h s was.0 holds.requests.keys was.1 in (
      was.0,
      was.1,
      elim was.2 [
        | inl same ↦ becomes_same h s was.0 c same keys
        | inr lost ↦
            let waiting = holds.requests.requests.waits k.node s k.i lost.0.request lost.0.progress k.at (record { held = lost.0; has = lost.1; asks = refl; stands = refl }) in
            let mine : waiting.0 ≡ was.0 = one_client w.clients s waiting.0 was.0 waiting.1 was.1 in
            subst (λ (x : Client). Becomes h s was.0 x) (sym lost.2) (loss_becomes h s lost.0.request was.0 keys (subst (λ (x : Client). WaitsFor lost.0.request x) mine waiting.2))
      ],
    )

crash_begun : (w : State) (h : List Item) (k : Crashed w) → IsolationInvariant w h → HaveBegun (crashed_state w k).clients h
crash_begun w h k holds = record {
  begun = λ s c at has.
      let was = crash_becomes w h k s c holds at in
      let kept = was.2.begun has in
      let before = holds.requests.have_begun.begun s was.0 was.1 kept.0 in
      (before.0, kept.1 ∙ before.1, before.2);
}

crash_keys : (w : State) (h : List Item) (k : Crashed w) → IsolationInvariant w h → AreKeys (crashed_state w k).clients h
crash_keys w h k holds = record {
  written = λ s t c at is start. (crash_becomes w h k s c holds at).2.keys.written t is start;
  some = λ s c at asked. (crash_becomes w h k s c holds at).2.keys.some asked;
}

pub leaves_crashed : (w : State) (h : List Item) (k : Crashed w) → IsolationInvariant w h → Leaves w h (crashed_state w k).nodes (crashed_state w k).clients
leaves_crashed w h k holds = record {
  have_begun = crash_begun w h k holds;
  requests = requests_crashed w.nodes w.clients k.node k.i k.at holds.requests.requests;
  starting = standing_ended IsDrawnNow w.nodes k.node;
  pending = fewer_pending w.clients (crashed_state w k).clients w.nodes (crashed_state w k).nodes (at_work_after w (OfCrashed k) refl).placing (fewer_crashed w k);
  settled = standing_ended IsSettledNow w.nodes k.node;
  accepted = standing_ended IsAcceptedNow w.nodes k.node;
  opened = (at_work_after w (OfCrashed k) refl).opened;
  keys = crash_keys w h k holds;
  form = form_fewer w.setup w.clients (crashed_state w k).clients w.nodes (crashed_state w k).nodes (standing_ended IsDrawnNow w.nodes k.node) (at_work_after w (OfCrashed k) refl).placing holds.requests.form;
}

-- ---- the ask of a begin
asks_begin : (w : State) (k : AskedBegin w) → (client_asked k.c).entry.state ≡ phase.Asking
asks_begin w k = ap asked_state k.free

no_transaction : (h : List Item) (s : ℕ) (c : Client) → c.entry.state ≡ phase.Asking → BegunClient h s c
no_transaction h s c is has = absurd (has_none c.entry.state (inr (inl is)) has)

keys_asking : (h : List Item) (c : Client) → c.entry.state ≡ phase.Asking → KeysClient h c
keys_asking h c is = keys_closed h c (λ o. asking_closed (subst (λ x. (x ≡ phase.Open) ⊎ HasAsked x) is o))

pub leaves_asked_begin : (w : State) (h : List Item) (k : AskedBegin w) → IsolationInvariant w h → Leaves w h (asked_begin_state w k).nodes (asked_begin_state w k).clients
leaves_asked_begin w h k holds = record {
  have_begun = begun_set w.clients h k.session (client_asked k.c) (no_transaction h k.session (client_asked k.c) (asks_begin w k)) holds.requests.have_begun;
  requests = requests_new w.nodes (asked_begin_state w k).nodes w.clients k.node k.session (Begin k.session) k.c (client_asked k.c) phase.Free (new_held w.nodes k.session k.node k.i _ k.at) refl k.client_at k.free free_waits (inr (asks_begin w k)) holds.requests.requests;
  starting = standing_asked_begin IsDrawnNow w k (λ is. is);
  pending = pending_asked_begin w k;
  settled = standing_asked_begin IsSettledNow w k (λ is. is);
  accepted = standing_asked_begin IsAcceptedNow w k (λ is. is);
  opened = (at_work_after w (OfAskedBegin k) refl).opened;
  keys = keys_set w.clients h k.session (client_asked k.c) (keys_asking h (client_asked k.c) (asks_begin w k)) holds.requests.keys;
  form = form_fewer w.setup w.clients (asked_begin_state w k).clients w.nodes (asked_begin_state w k).nodes (standing_asked_begin IsDrawnNow w k (λ is. is)) (at_work_after w (OfAskedBegin k) refl).placing holds.requests.form;
}

-- ---- the end of a request
-- the client waits for its request
pub waits_for : (w : State) (h : List Item) (n s : ℕ) (i : InstanceEntry) (held : Held) (c : Client) → IsolationInvariant w h → InstanceAt w.nodes n i → held_of i s ≡ Some held → ClientAt w.clients s c → WaitsFor held.request c
waits_for w h n s i held c holds at has client =
    let waiting = holds.requests.requests.waits n s i held.request held.progress at (held_by i s held has) in
    subst (λ (x : Client). WaitsFor held.request x) (one_client w.clients s waiting.0 c waiting.1 client) waiting.2

pub leaves_over : (w : State) (h : List Item) (n s : ℕ) (i : InstanceEntry) (held : Held) (c new : Client) → InstanceAt w.nodes n i → held_of i s ≡ Some held → ClientAt w.clients s c → Becomes h s c new → FewerServed w.nodes (slice_set w.nodes n (Some (without_request i s))) → FewerAtWork w.clients (slice_set w.clients s new) → IsolationInvariant w h → Leaves w h (slice_set w.nodes n (Some (without_request i s))) (slice_set w.clients s new)
leaves_over w h n s i held c new at has client becomes served work holds = record {
  have_begun = begun_kept w.clients h s c new client becomes.begun holds.requests.have_begun;
  requests = requests_over w.nodes (slice_set w.nodes n (Some (without_request i s))) w.clients n s i held.request held.progress c new refl at (held_by i s held has) client holds.requests.requests;
  starting = standing_over IsDrawnNow w.nodes n s i at;
  pending = fewer_pending w.clients (slice_set w.clients s new) w.nodes (slice_set w.nodes n (Some (without_request i s))) work.placing served;
  settled = standing_over IsSettledNow w.nodes n s i at;
  accepted = standing_over IsAcceptedNow w.nodes n s i at;
  opened = work.opened;
  keys = keys_set w.clients h s new becomes.keys holds.requests.keys;
  form = form_fewer w.setup w.clients (slice_set w.clients s new) w.nodes (slice_set w.nodes n (Some (without_request i s))) (standing_over IsDrawnNow w.nodes n s i at) work.placing holds.requests.form;
}

pub leaves_ended : (w : State) (h : List Item) (k : Ended w) → IsolationInvariant w h → Leaves w h (ended_state w k).nodes (ended_state w k).clients
leaves_ended w h k holds =
    let waits : WaitsFor k.held.request k.c = waits_for w h k.node k.session k.i k.held k.c holds k.at k.has k.client_at in
    leaves_over w h k.node k.session k.i k.held k.c (after_refusal k.held.request k.c) k.at k.has k.client_at
    (refusal_becomes h k.session k.held.request k.c (keys_client w.clients h k.session k.c holds.requests.keys k.client_at) waits) (fewer_ended_one w k) (at_work_after w (OfEnded k) refl) holds

pub leaves_answered_commit : (w : State) (h : List Item) (k : AnsweredCommit w) → IsolationInvariant w h → Leaves w h (answered_commit_state w k).nodes (answered_commit_state w k).clients
leaves_answered_commit w h k holds =
    let waits : WaitsFor (Commit k.asker k.start k.keys) k.c = subst (λ (x : Request). WaitsFor x k.c) k.request_is (waits_for w h k.node k.session k.i k.held k.c holds k.at k.has k.client_at) in
    leaves_over w h k.node k.session k.i k.held k.c (unless_gone k.c (answered_client k.by k.c k.commit)) k.at k.has k.client_at
    (answer_becomes h k.session k.asker k.start k.commit k.keys k.by k.c (keys_client w.clients h k.session k.c holds.requests.keys k.client_at) waits) (fewer_answered_commit w k) (at_work_after w (OfAnsweredCommit k) refl) holds
