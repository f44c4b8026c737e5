-- Outcomes that leave fewer commits in flight, or as many.
use Rattle.isolation_laws.proofs.Requests.ClientMoves.{at_work_after}
use Rattle.isolation_laws.proofs.Names.{OfAskedBegin, ◌≡◌, ◌≢◌, ℕ, ◌+◌, Bool, true, false, List, Option, Some, ◌⊎◌, inl}
use Rattle.isolation_laws.proofs.Names.{inr, refl, subst, Settled, slice_set, Commit, InstanceEntry, with_request}
use Rattle.isolation_laws.proofs.Names.{without_request, moved, just_asked, instance_widened, instance_renewed, State}
use Rattle.isolation_laws.proofs.Names.{Client, granted, renewed_until, rules_of, instance_of, InstanceAt, HeldBy}
use Rattle.isolation_laws.proofs.Names.{InFlight, HeldPending, PlacingAt, Pending, ComesBelow, IsPending}
use Rattle.isolation_laws.proofs.Names.{instance_changed, Still, Granted, granted_nodes, granted_state, Renewed}
use Rattle.isolation_laws.proofs.Names.{renewed_nodes, renewed_state, Extended, extended_nodes, extended_state, Crashed}
use Rattle.isolation_laws.proofs.Names.{crashed_state, AskedBegin, asked_begin_state, Ended, ended_state, AnsweredBegin}
use Rattle.isolation_laws.proofs.Names.{answered_begin_state, AnsweredCommit, answered_commit_state, AtDrawn}
use Rattle.isolation_laws.proofs.Names.{settled_nodes}
use Rattle.system_parts.specs.declared.instance.Progress.TheVariants as progress
use Rattle.system_parts.specs.declared.instance.Request.TheVariants.{Begin}
use Rattle.isolation_laws.proofs.Requests.OpenAfter.{placing_answered_begin}
use Rattle.isolation_laws.proofs.Requests.PendingAfter.{PendingIn, pending_in, pending_at, FewerServed, FewerPending, fewer_pending, fewer_changed, fewer_ended, none_more_alike, none_more_ended, none_more_begun, settled_cases, new_holds_none, none_more_same}

-- ---- outcomes with fewer commits in flight
pub same_served : (nodes : List (Option InstanceEntry)) → FewerServed nodes nodes
same_served nodes q p = p

pub fewer_still : (w : State) (k : Still w) → FewerServed w.nodes k.nodes
fewer_still w k q p =
    let old = k.alike.each p.node p.instance_of p.at in
    pending_at w.nodes q p.node old.0 old.1 (none_more_alike old.0 p.instance_of old.2 q (pending_in k.nodes q p))

granted_fewer : (w : State) (k : Granted w) (failed : Bool) → FewerServed w.nodes (granted_nodes w k failed)
granted_fewer w k true q p = p
granted_fewer w k false q p = elim (instance_changed w.nodes k.node p.node (instance_of w.setup k.node (granted (rules_of w.setup) w.master k.reading)) p.instance_of p.at) [
  | inl here ↦ absurd (new_holds_none (granted (rules_of w.setup) w.master k.reading) k.node w.setup.buckets w.setup.width w.setup.slots w.setup.direct q.session (Commit q.session q.start q.keys) p.progress_of (subst (λ (x : InstanceEntry). HeldBy x q.session (Commit q.session q.start q.keys) p.progress_of) here.1 p.held))
  | inr there ↦ pending_at w.nodes q p.node p.instance_of there.1 (pending_in (granted_nodes w k false) q p)
]

pub fewer_granted : (w : State) (k : Granted w) → FewerServed w.nodes (granted_state w k).nodes
fewer_granted w k = granted_fewer w k k.failed

renewed_fewer : (w : State) (k : Renewed w) (failed : Bool) → FewerServed w.nodes (renewed_nodes w k failed)
renewed_fewer w k true q p = p
renewed_fewer w k false q p = fewer_changed w.nodes k.node k.i (instance_renewed k.i (renewed_until (rules_of w.setup) w.master k.reading)) k.at
    (none_more_same k.i _ refl refl) q p

pub fewer_renewed : (w : State) (k : Renewed w) → FewerServed w.nodes (renewed_state w k).nodes
fewer_renewed w k = renewed_fewer w k k.failed

extended_fewer : (w : State) (k : Extended w) (failed : Bool) → FewerServed w.nodes (extended_nodes w k failed)
extended_fewer w k true q p = p
extended_fewer w k false q p = fewer_changed w.nodes k.node k.i (instance_widened k.i (w.master.ceiling + w.setup.range)) k.at
    (none_more_same k.i _ refl refl) q p

pub fewer_extended : (w : State) (k : Extended w) → FewerServed w.nodes (extended_state w k).nodes
fewer_extended w k = extended_fewer w k k.failed

pub fewer_crashed : (w : State) (k : Crashed w) → FewerServed w.nodes (crashed_state w k).nodes
fewer_crashed w k = fewer_ended w.nodes k.node

pub pending_asked_begin : (w : State) (k : AskedBegin w) → FewerPending w.clients w.nodes (asked_begin_state w k).clients (asked_begin_state w k).nodes
pending_asked_begin w k = fewer_pending w.clients (asked_begin_state w k).clients w.nodes (asked_begin_state w k).nodes (at_work_after w (OfAskedBegin k) refl).placing
    (fewer_changed w.nodes k.node k.i (with_request k.i k.session (Some (just_asked (Begin k.session)))) k.at (none_more_begun k.i k.session))

pub fewer_ended_one : (w : State) (k : Ended w) → FewerServed w.nodes (ended_state w k).nodes
fewer_ended_one w k = fewer_changed w.nodes k.node k.i (without_request k.i k.session) k.at (none_more_ended k.i k.session)

pub pending_answered_begin : (w : State) (k : AnsweredBegin w) → FewerPending w.clients w.nodes (answered_begin_state w k).clients (answered_begin_state w k).nodes
pending_answered_begin w k = fewer_pending w.clients (answered_begin_state w k).clients w.nodes (answered_begin_state w k).nodes (placing_answered_begin w k)
    (fewer_changed w.nodes k.node k.i (without_request k.i k.session) k.at (none_more_ended k.i k.session))

pub fewer_answered_commit : (w : State) (k : AnsweredCommit w) → FewerServed w.nodes (answered_commit_state w k).nodes
fewer_answered_commit w k = fewer_changed w.nodes k.node k.i (without_request k.i k.session) k.at (none_more_ended k.i k.session)

-- ---- outcomes that move a commit in flight
-- the commit was held before, and not of this session by this node
abbrev pub StaysElsewhere : List (Option InstanceEntry) → ℕ → ℕ → InFlight → Type 0
StaysElsewhere nodes n s q = (p : HeldPending nodes q) × ((p.node ≡ n) × (q.session ≡ s) → ⊥)

-- or its session is placing it
abbrev pub StaysPut : List Client → List (Option InstanceEntry) → ℕ → ℕ → InFlight → Type 0
StaysPut clients nodes n s q = StaysElsewhere nodes n s q ⊎ PlacingAt clients q

pub stays_pending : (clients : List Client) (nodes : List (Option InstanceEntry)) (n s : ℕ) (q : InFlight) → StaysPut clients nodes n s q → Pending clients nodes q
stays_pending clients nodes n s q (inl held) = inl held.0
stays_pending clients nodes n s q (inr placing) = inr placing

-- ---- what may come below a start
pub fewer_comes : (clients new_clients : List Client) (nodes new_nodes : List (Option InstanceEntry)) (b t : ℕ) → FewerPending clients nodes new_clients new_nodes → ComesBelow new_clients new_nodes b t → ComesBelow clients nodes b t
fewer_comes clients new_clients nodes new_nodes b t fewer c = record { coming = c.coming; pending = fewer c.coming c.pending; start_is = c.start_is; below = c.below }

pub fewer_is_pending : (clients new_clients : List Client) (nodes new_nodes : List (Option InstanceEntry)) (t : ℕ) → FewerPending clients nodes new_clients new_nodes → IsPending new_clients new_nodes t → IsPending clients nodes t
fewer_is_pending clients new_clients nodes new_nodes t fewer c = record { coming = c.coming; pending = fewer c.coming c.pending; start_is = c.start_is }

-- ---- a request that is settled or over is in flight no more
gone_from : (nodes : List (Option InstanceEntry)) (n s : ℕ) (i j : InstanceEntry) (q : InFlight) → InstanceAt nodes n i → ((q : InFlight) → PendingIn j q → (q.session ≢ s) × PendingIn i q) → HeldPending (slice_set nodes n (Some j)) q → StaysElsewhere nodes n s q
gone_from nodes n s i j q at less p = elim (instance_changed nodes n p.node j p.instance_of p.at) [
  | inl here ↦
      let was = less q (subst (λ (x : InstanceEntry). PendingIn x q) here.1 (pending_in (slice_set nodes n (Some j)) q p)) in
      (pending_at nodes q n i at was.1, λ same. was.0 same.1)
  | inr there ↦ (pending_at nodes q p.node p.instance_of there.1 (pending_in (slice_set nodes n (Some j)) q p), λ same. there.0 same.0)
]

served_settled : (w : State) (it : AtDrawn w) (by : Settled) (q : InFlight) → HeldPending (settled_nodes w it by) q → StaysElsewhere w.nodes it.node it.session q
served_settled w it by q p = gone_from w.nodes it.node it.session it.i (moved it.i it.session it.held (progress.Settled it.commit by)) q it.at (λ q p. settled_cases it.i it.session it.commit by it.held q p) p

pub pending_settled : (w : State) (it : AtDrawn w) (by : Settled) (q : InFlight) → Pending w.clients (settled_nodes w it by) q → StaysPut w.clients w.nodes it.node it.session q
pending_settled w it by q (inl p) = inl (served_settled w it by q p)
pending_settled w it by q (inr p) = inr p

pub fewer_settled : (w : State) (it : AtDrawn w) (by : Settled) → FewerPending w.clients w.nodes w.clients (settled_nodes w it by)
fewer_settled w it by q p = stays_pending w.clients w.nodes it.node it.session q (pending_settled w it by q p)
