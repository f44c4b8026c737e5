-- Sessions and requests where a commit is handed over: no instance holds it any more, and its session is to place it.
use Rattle.isolation_laws.proofs.Names.{◌≡◌, ℕ, true, false, List, Some, inl, inr, refl, sym, ◌∙◌, ap, subst, same_Some}
use Rattle.isolation_laws.proofs.Names.{Item, Request, Commit, held_of, without_request, Client, State, client_handed}
use Rattle.isolation_laws.proofs.Names.{unless_gone, HeldBy, Has, InFlight, HeldPending, is_placing, PlacingAt}
use Rattle.isolation_laws.proofs.Names.{WaitsFor, AreForm, IsolationInvariant, client_set, held_by, commit_own}
use Rattle.isolation_laws.proofs.Names.{HandedOver, handed_over_state}
use Rattle.system_parts.specs.declared.session.State.TheVariants as phase
use Rattle.system_parts.specs.declared.instance.Progress.TheVariants as progress
use Rattle.isolation_laws.proofs.Requests.PendingAfter.{FewerPending, fewer_changed, none_more_ended}
use Rattle.isolation_laws.proofs.Requests.ClientsOpen.{OpensNothing, FewerOpen, fewer_open_set, gone_cases, gone_rests}
use Rattle.isolation_laws.proofs.Requests.ClientsAfter.{begun_kept, keys_client, keys_set}
use Rattle.isolation_laws.proofs.Requests.ClientsBecome.{Becomes, stays_gone, handed_becomes}
use Rattle.isolation_laws.proofs.Requests.CommitsInFlight.{IsSettledNow, IsAcceptedNow, IsDrawnNow}
use Rattle.isolation_laws.proofs.Requests.RequestsAfter.{requests_over}
use Rattle.isolation_laws.proofs.Requests.RequestsKept.{Leaves}
use Rattle.isolation_laws.proofs.Requests.RequestsOfNodes.{waits_for}
use Rattle.isolation_laws.proofs.Requests.Standing.{standing_over}

-- ---- the commit, as it was held, and its session
abbrev handed_client : (w : State) (k : HandedOver w) → Client
handed_client w k = unless_gone k.c (client_handed k.c k.commit)

handed_request : (w : State) (h : List Item) (k : HandedOver w) → IsolationInvariant w h → k.held.request ≡ Commit k.session k.start k.keys
handed_request w h k holds = commit_own k.held.request k.session k.asker k.start k.keys k.request_is (holds.requests.requests.own k.node k.session k.i k.held.request k.held.progress k.at (held_by k.i k.session k.held k.has))

handed_held : (w : State) (h : List Item) (k : HandedOver w) → IsolationInvariant w h → HeldBy k.i k.session (Commit k.session k.start k.keys) (progress.Handed k.commit)
handed_held w h k holds = record { held = k.held; has = k.has; asks = handed_request w h k holds; stands = k.drawn }

abbrev handed_in_flight : (w : State) → HandedOver w → InFlight
handed_in_flight w k = record { session = k.session; start = k.start; keys = k.keys; stage = Has k.commit }

handed_was : (w : State) (h : List Item) (k : HandedOver w) → IsolationInvariant w h → HeldPending w.nodes (handed_in_flight w k)
handed_was w h k holds = record { node = k.node; instance_of = k.i; progress_of = progress.Handed k.commit; at = k.at; held = handed_held w h k holds; stage_is = refl }

handed_waits : (w : State) (h : List Item) (k : HandedOver w) → IsolationInvariant w h → WaitsFor (Commit k.session k.start k.keys) k.c
handed_waits w h k holds = subst (λ (x : Request). WaitsFor x k.c) (handed_request w h k holds) (waits_for w h k.node k.session k.i k.held k.c holds k.at k.has k.client_at)

-- the keys that it asks for are those of its session's list
handed_keys : (w : State) (h : List Item) (k : HandedOver w) → IsolationInvariant w h → k.c.entry.state ≡ phase.Committing → k.c.entry.start ≡ Some k.start → k.keys ≡ k.c.entry.keys
handed_keys w h k holds is start = (holds.requests.pending.keys (handed_in_flight w k) (inl (handed_was w h k holds))).0 ∙ sym (holds.requests.keys.written k.session k.start k.c k.client_at (inr (inl is)) start)

-- ---- what is in flight was in flight
has_same : (a b : ℕ) → Some a ≡ Some b → Has a ≡ Has b
has_same a b same = ap Has (same_Some a b same)

-- its session is placing just that one
handed_placing : (w : State) (h : List Item) (k : HandedOver w) (q : InFlight) (p : PlacingAt (handed_over_state w k).clients q) → IsolationInvariant w h → q.session ≡ k.session → p.client ≡ client_handed k.c k.commit → k.c.entry.state ≡ phase.Committing → k.c.entry.start ≡ Some k.start → HeldPending w.nodes q
handed_placing w h k q p holds session client is start =
    let same_start : k.start ≡ q.start = same_Some k.start q.start (sym start ∙ (sym (ap (λ (c : Client). c.entry.start) client) ∙ p.start_is)) in
    let same_keys : k.keys ≡ q.keys = handed_keys w h k holds is start ∙ (sym (ap (λ (c : Client). c.entry.keys) client) ∙ p.keys_are) in
    let same_stage : Has k.commit ≡ q.stage = has_same k.commit p.commit_of (sym (ap (λ (c : Client). c.entry.commit) client) ∙ p.commit_is) ∙ sym p.stage_is in
    record {
      node = k.node;
      instance_of = k.i;
      progress_of = progress.Handed k.commit;
      at = k.at;
      held = record {
        held = k.held;
        has = ap (λ s. held_of k.i s) session ∙ k.has;
        asks = handed_request w h k holds ∙ (ap (λ s. Commit s k.start k.keys) (sym session) ∙ (ap (λ t. Commit q.session t k.keys) same_start ∙ ap (Commit q.session q.start) same_keys));
        stands = k.drawn;
      };
      stage_is = ap Some same_stage;
    }

gone_not_placing : (c d : Client) → c ≡ d → d.entry.state ≡ phase.Gone → is_placing c.entry.state ≡ true → ⊥
gone_not_placing c d same gone placing = gone_rests.not_placing (ap is_placing (sym gone) ∙ (ap (λ (x : Client). is_placing x.entry.state) (sym same) ∙ placing))

gone_not_committing : (c : Client) → c.entry.state ≡ phase.Gone → c.entry.state ≡ phase.Committing → ⊥
gone_not_committing c gone is = let both : phase.Gone ≡ phase.Committing = sym gone ∙ is in cc

handed_now : (w : State) (h : List Item) (k : HandedOver w) (q : InFlight) (p : PlacingAt (handed_over_state w k).clients q) → IsolationInvariant w h → q.session ≡ k.session → p.client ≡ handed_client w k → HeldPending w.nodes q
handed_now w h k q p holds session client = elim (handed_waits w h k holds) [
  | inl gone ↦ absurd (gone_not_placing p.client k.c (client ∙ stays_gone k.c (client_handed k.c k.commit) gone) gone p.state_is)
  | inr asked ↦ elim (gone_cases k.c (client_handed k.c k.commit)) [
    | inl stays ↦ absurd (gone_not_committing k.c stays.1 asked.0)
    | inr moves ↦ handed_placing w h k q p holds session (client ∙ moves) asked.0 asked.1
  ]
]

pending_handed : (w : State) (h : List Item) (k : HandedOver w) → IsolationInvariant w h → FewerPending w.clients w.nodes (handed_over_state w k).clients (handed_over_state w k).nodes
pending_handed w h k holds q (inl p) = inl (fewer_changed w.nodes k.node k.i (without_request k.i k.session) k.at (none_more_ended k.i k.session) q p)
pending_handed w h k holds q (inr p) = elim (client_set w.clients k.session q.session (handed_client w k) p.client p.at) [
  | inl here ↦ inl (handed_now w h k q p holds here.0 here.1)
  | inr there ↦ inr (record { client = p.client; at = there.1; state_is = p.state_is; start_is = p.start_is; keys_are = p.keys_are; commit_of = p.commit_of; commit_is = p.commit_is; stage_is = p.stage_is })
]

-- ---- the facts
placing_not_open : (c : Client) (commit : ℕ) → (client_handed c commit).entry.state ≡ phase.Open → ⊥
placing_not_open c commit is = cc

handed_opens : (w : State) (k : HandedOver w) → OpensNothing k.c (handed_client w k)
handed_opens w k = elim (gone_cases k.c (client_handed k.c k.commit)) [
  | inl stays ↦ inr (ap (λ (c : Client). c.entry.state) stays.0, ap (λ (c : Client). c.entry.start) stays.0, ap (λ (c : Client). c.entry.epoch) stays.0)
  | inr moves ↦ inl (λ is. placing_not_open k.c k.commit (ap (λ (c : Client). c.entry.state) (sym moves) ∙ is))
]

pub open_handed : (w : State) (k : HandedOver w) → FewerOpen w.clients (handed_over_state w k).clients
open_handed w k = fewer_open_set w.clients k.session k.c (handed_client w k) k.client_at (handed_opens w k)

true_not_false : true ≡ false → ⊥
true_not_false is = cc

handed_form : (w : State) (h : List Item) (k : HandedOver w) → IsolationInvariant w h → AreForm w.setup (handed_over_state w k).nodes (handed_over_state w k).clients
handed_form w h k holds = record {
  handed = λ n s c j request at held. let was = (standing_over IsDrawnNow w.nodes k.node k.session k.i k.at).each n s j request (progress.Handed c) tt at held in holds.requests.form.handed n s c was.0 request was.1 was.2;
  plain = λ flag s c at placing. absurd (true_not_false (sym (holds.requests.form.handed k.node k.session k.commit k.i (Commit k.session k.start k.keys) k.at (handed_held w h k holds)) ∙ flag));
}

pub leaves_handed : (w : State) (h : List Item) (k : HandedOver w) → IsolationInvariant w h → Leaves w h (handed_over_state w k).nodes (handed_over_state w k).clients
leaves_handed w h k holds =
    let becomes : Becomes h k.session k.c (handed_client w k) = handed_becomes h k.session k.session k.start k.commit k.keys k.c (keys_client w.clients h k.session k.c holds.requests.keys k.client_at) (handed_waits w h k holds) in
    record {
      have_begun = begun_kept w.clients h k.session k.c (handed_client w k) k.client_at becomes.begun holds.requests.have_begun;
      requests = requests_over w.nodes (handed_over_state w k).nodes w.clients k.node k.session k.i k.held.request k.held.progress k.c (handed_client w k) refl k.at (held_by k.i k.session k.held k.has) k.client_at holds.requests.requests;
      starting = standing_over IsDrawnNow w.nodes k.node k.session k.i k.at;
      pending = pending_handed w h k holds;
      settled = standing_over IsSettledNow w.nodes k.node k.session k.i k.at;
      accepted = standing_over IsAcceptedNow w.nodes k.node k.session k.i k.at;
      opened = open_handed w k;
      keys = keys_set w.clients h k.session (handed_client w k) becomes.keys holds.requests.keys;
      form = handed_form w h k holds;
    }
