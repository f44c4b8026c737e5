-- A commit that is accepted or drawn, and that the oracle is to place, has its start for itself.
use Rattle.cluster_core.proofs.Names.{◌≡◌, ℕ, Bool, true, false, List, Option, Some, None, inl, refl, ap, subst, ◌∙◌}
use Rattle.cluster_core.proofs.Names.{same_Some, none-some, Item, Held, Progress, Asked, Accepted, Drawn, Settled}
use Rattle.cluster_core.proofs.Names.{Handed, Request, Begin, Commit, InstanceEntry, held_of, State, InstanceAt, HeldBy}
use Rattle.cluster_core.proofs.Names.{Begun, IsolationInvariant, held_by, commit_own, unless_direct, start_by}
use Rattle.cluster_core.proofs.Names.{start_to_place}
use Rattle.isolation_laws.specs.Pending.{Taken, Has, InFlight, HeldPending}
use Rattle.isolation_laws.proofs.OnceEach.{begun_once}
use Rattle.cluster_core.proofs.NodeMoves.{StartsAt}

-- such a request is a commit in flight
record IsInFlight (nodes : List (Option InstanceEntry)) (n s t : ℕ) : Type 0 where
  pub keys : List ℕ
  pub progress_of : Progress
  pub i : InstanceEntry
  pub at : InstanceAt nodes n i
  pub held : HeldBy i s (Commit s t keys) progress_of
  pub coming : InFlight
  pub pending : HeldPending nodes coming
  pub session_is : coming.session ≡ s
  pub start_is : coming.start ≡ t

unless_same : (direct : Bool) (u t : ℕ) → unless_direct direct u ≡ Some t → u ≡ t
unless_same true u t is = absurd (none-some t is)
unless_same false u t is = same_Some u t is

in_flight_by : (w : State) (h : List Item) (n s t : ℕ) (i : InstanceEntry) (held : Held) (request : Request) (p : Progress) → IsolationInvariant w h → InstanceAt w.nodes n i → held_of i s ≡ Some held → held.request ≡ request → held.progress ≡ p → start_by i.direct request p ≡ Some t → IsInFlight w.nodes n s t
in_flight_by w h n s t i held (Begin r) p holds at has asks stands is = absurd (none-some t is)
in_flight_by w h n s t i held (Commit r u keys) Asked holds at has asks stands is = absurd (none-some t is)
in_flight_by w h n s t i held (Commit r u keys) Accepted holds at has asks stands is =
    let own = commit_own held.request s r u keys asks (holds.requests.requests.own n s i held.request held.progress at (held_by i s held has)) in
    let by : HeldBy i s (Commit s t keys) Accepted = record { held = held; has = has; asks = own ∙ ap (λ v. Commit s v keys) (unless_same i.direct u t is); stands = stands } in
    record {
      keys = keys;
      progress_of = Accepted;
      i = i;
      at = at;
      held = by;
      coming = record { session = s; start = t; keys = keys; stage = Taken i.last };
      pending = record { node = n; instance_of = i; progress_of = Accepted; at = at; held = by; stage_is = refl };
      session_is = refl;
      start_is = refl;
    }
in_flight_by w h n s t i held (Commit r u keys) (Drawn c) holds at has asks stands is =
    let own = commit_own held.request s r u keys asks (holds.requests.requests.own n s i held.request held.progress at (held_by i s held has)) in
    let by : HeldBy i s (Commit s t keys) (Drawn c) = record { held = held; has = has; asks = own ∙ ap (λ v. Commit s v keys) (same_Some u t is); stands = stands } in
    record {
      keys = keys;
      progress_of = Drawn c;
      i = i;
      at = at;
      held = by;
      coming = record { session = s; start = t; keys = keys; stage = Has c };
      pending = record { node = n; instance_of = i; progress_of = Drawn c; at = at; held = by; stage_is = refl };
      session_is = refl;
      start_is = refl;
    }
in_flight_by w h n s t i held (Commit r u keys) (Settled c by) holds at has asks stands is = absurd (none-some t is)
in_flight_by w h n s t i held (Commit r u keys) (Handed c) holds at has asks stands is = absurd (none-some t is)

in_flight_as : (w : State) (h : List Item) (n s t : ℕ) (i : InstanceEntry) (found : Option Held) → IsolationInvariant w h → InstanceAt w.nodes n i → held_of i s ≡ found → start_to_place i.direct found ≡ Some t → IsInFlight w.nodes n s t
in_flight_as w h n s t i None holds at has is = absurd (none-some t is)
in_flight_as w h n s t i (Some held) holds at has is = in_flight_by w h n s t i held held.request held.progress holds at has refl refl is

in_flight : (w : State) (h : List Item) (n s t : ℕ) → IsolationInvariant w h → StartsAt w.nodes n s t → IsInFlight w.nodes n s t
in_flight w h n s t holds k = in_flight_as w h n s t k.i (held_of k.i s) holds k.at refl k.starts

begun_in : (w : State) (h : List Item) (n s t : ℕ) → IsolationInvariant w h → (k : IsInFlight w.nodes n s t) → Begun h s t
begun_in w h n s t holds k =
    subst (λ r. Begun h r t) k.session_is (subst (λ u. Begun h k.coming.session u) k.start_is (holds.requests.pending.begun k.coming (inl k.pending)))

-- two of them with one start are one
pub one_start : (w : State) (h : List Item) (n s m r t : ℕ) → IsolationInvariant w h → StartsAt w.nodes n s t → StartsAt w.nodes m r t → (n ≡ m) × (s ≡ r)
one_start w h n s m r t holds a b =
    let here = in_flight w h n s t holds a in
    let there = in_flight w h m r t holds b in
    let session : s ≡ r = begun_once h s r t holds.isolated.stamped (begun_in w h n s t holds here) (begun_in w h m r t holds there) in
    let as_there = subst (λ q. HeldBy here.i q (Commit s t here.keys) here.progress_of) session here.held in
    (holds.requests.requests.one n m r here.i there.i (Commit s t here.keys) (Commit r t there.keys) here.progress_of there.progress_of here.at there.at as_there there.held, session)
