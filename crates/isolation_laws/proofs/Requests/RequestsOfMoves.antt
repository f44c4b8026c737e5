-- Sessions and requests where a commit is asked, a request is accepted, a stamp is drawn, a commit is settled.
use Rattle.isolation_laws.proofs.Requests.ClientMoves.{at_work_after}
use Rattle.isolation_laws.proofs.Names.{OfAskedCommit, ◌≡◌, ℕ, ◌<◌, ◌≤◌, nat_le, if◌then◌else◌, Bool, true, false, List}
use Rattle.isolation_laws.proofs.Names.{◌++◌, Some, None, inl, inr, refl, sym, ◌∙◌, ap, subst, arith, leb-false}
use Rattle.isolation_laws.proofs.Names.{same_Some, none-some, OldEpoch, Item, Begin, asked_state, Request, Commit}
use Rattle.isolation_laws.proofs.Names.{InstanceEntry, session_of, moved, epoch_refusal, Client, State, client_asked}
use Rattle.isolation_laws.proofs.Names.{HeldBy, ClientAt, epoch_or_none, OpenAt, Begun, HasDrawn, written_keys, Stage}
use Rattle.isolation_laws.proofs.Names.{Waits, InFlight, HeldPending, IsDrawnSoFar, AreAccepted, RequestFacts}
use Rattle.isolation_laws.proofs.Names.{IsolationInvariant, held_by, held_set, instance_changed, AskedCommit}
use Rattle.isolation_laws.proofs.Names.{asked_commit_state, Accepted, AcceptedSteadily, accepted_state}
use Rattle.system_parts.specs.declared.session.State.TheVariants as phase
use Rattle.system_parts.specs.declared.instance.Progress.TheVariants as progress
use Rattle.isolation_laws.proofs.Owners.{accepts_now, begun_below_last}
use Rattle.isolation_laws.proofs.Requests.PendingMoved.{IsAsked, pending_asked_commit, IsTaken, pending_accepted}
use Rattle.isolation_laws.proofs.Requests.ClientsOpen.{same_at_work}
use Rattle.isolation_laws.proofs.Numbers.NumbersKept.{open_begun}
use Rattle.isolation_laws.proofs.Requests.ClientsAfter.{begun_kept, has_by, KeysClient, keys_client, keys_set}
use Rattle.isolation_laws.proofs.Requests.RequestsAfter.{open_waits, new_held, requests_new, requests_fewer}
use Rattle.isolation_laws.proofs.Requests.Standing.{standing_asked_commit, standing_accepted, held_accepted}
use Rattle.isolation_laws.proofs.Requests.CommitsInFlight.{PendingOne, pending_one, pending_on, are_pending, here_fewer, IsSettledNow, IsAcceptedNow, IsDrawnNow, accepted_fewer}
use Rattle.isolation_laws.proofs.Requests.Silent.{Silent, silent_drawn, silent_quiet}
use Rattle.isolation_laws.proofs.Requests.RequestsKept.{have_silent, keys_silent, stays_silent, starting_silent, settled_silent, open_silent, form_fewer}

-- an open client of a start, as open
pub opens : (w : State) (s t : ℕ) (c : Client) → ClientAt w.clients s c → c.entry.state ≡ phase.Open → c.entry.start ≡ Some t → OpenAt w.clients s t (epoch_or_none c.entry.epoch)
opens w s t c at is start = record { client = c; at = at; state_is = is; start_is = start; epoch_is = refl }

-- ---- a commit is asked: one more is in flight, and waits
asks_commit : (w : State) (k : AskedCommit w) → (client_asked k.c).entry.state ≡ phase.Committing
asks_commit w k = ap asked_state k.is_open

asked_keys : (w : State) (h : List Item) (k : AskedCommit w) → IsolationInvariant w h → KeysClient h (client_asked k.c)
asked_keys w h k holds =
    let keys : KeysClient h k.c = keys_client w.clients h k.session k.c holds.requests.keys k.client_at in
    record { written = λ t is start. keys.written t (inl k.is_open) start; some = λ asked. k.written }

asked_one : (w : State) (h g : List Item) (k : AskedCommit w) (q : InFlight) → Silent h g → IsolationInvariant w h → IsAsked w k q → PendingOne g q
asked_one w h g k q silent holds is =
    let keys : KeysClient h k.c = keys_client w.clients h k.session k.c holds.requests.keys k.client_at in
    let begun : Begun h k.session k.start = open_begun w.clients h k.session k.start k.c holds.requests.have_begun k.client_at k.is_open k.start_is in
    record {
      begun = silent.on (Begin q.session q.start) (subst (λ s. Begun h s q.start) (sym is.session_is) (subst (Begun h k.session) (sym is.start_is) begun));
      keys = is.keys_are ∙ (keys.written k.start (inl k.is_open) k.start_is ∙ (ap (written_keys h) (sym is.start_is) ∙ sym (silent.keys q.start)));
      some = λ none. k.written (sym is.keys_are ∙ none);
      so_far = subst (λ (stage : Stage). IsDrawnSoFar g q stage) (sym is.waits) (λ drew. holds.requests.opened.undrawn k.session k.start (epoch_or_none k.c.entry.epoch) (opens w k.session k.start k.c k.client_at k.is_open k.start_is) (subst (HasDrawn h) is.start_is (silent_drawn h g q.start silent drew)));
    }

pub requests_asked_commit : (w : State) (h : List Item) (k : AskedCommit w) → IsolationInvariant w h → RequestFacts w.setup (asked_commit_state w k).nodes (asked_commit_state w k).clients (h ++ k.items)
requests_asked_commit w h k holds =
    let g : List Item = h ++ k.items in
    let silent : Silent h g = silent_quiet h k.items k.quiet in
    record {
      have_begun = have_silent (asked_commit_state w k).clients h g silent (begun_kept w.clients h k.session k.c (client_asked k.c) k.client_at (λ has. (has_by k.c.entry.state phase.Open k.is_open refl, refl)) holds.requests.have_begun);
      requests = requests_new w.nodes (asked_commit_state w k).nodes w.clients k.node k.session (Commit k.session k.start k.c.entry.keys) k.c (client_asked k.c) phase.Open (new_held w.nodes k.session k.node k.i _ k.at) refl k.client_at k.is_open open_waits (inr (asks_commit w k, k.start_is)) holds.requests.requests;
      starting = starting_silent w.nodes (asked_commit_state w k).nodes h g silent (standing_asked_commit IsDrawnNow w k (λ is. is)) holds.requests.starting;
      pending = are_pending (asked_commit_state w k).clients (asked_commit_state w k).nodes g (λ q p. elim (pending_asked_commit w k q p) [
        | inl old ↦ pending_on h g q silent.on (stays_silent h g q silent) (pending_one w.clients w.nodes h q holds.requests.pending old)
        | inr new ↦ asked_one w h g k q silent holds new
      ]) (here_fewer w.nodes (asked_commit_state w k).nodes h g (standing_asked_commit IsDrawnNow w k (λ is. is)) silent.on holds.requests.pending.here);
      settled = settled_silent w.nodes (asked_commit_state w k).nodes h g silent (standing_asked_commit IsSettledNow w k (λ is. is)) holds.requests.settled;
      accepted = accepted_fewer w.nodes (asked_commit_state w k).nodes (standing_asked_commit IsAcceptedNow w k (λ is. is)) holds.requests.accepted;
      opened = open_silent w.clients (asked_commit_state w k).clients h g silent (at_work_after w (OfAskedCommit k) refl).opened holds.requests.opened;
      keys = keys_silent (asked_commit_state w k).clients h g silent (keys_set w.clients h k.session (client_asked k.c) (asked_keys w h k holds) holds.requests.keys);
      form = form_fewer w.setup w.clients (asked_commit_state w k).clients w.nodes (asked_commit_state w k).nodes (standing_asked_commit IsDrawnNow w k (λ is. is)) (at_work_after w (OfAskedCommit k) refl).placing holds.requests.form;
    }

-- ---- a request is accepted: its transaction began within the instance's range
-- what was taken waited before
taken_one : (w : State) (h g : List Item) (k : Accepted w) (q : InFlight) → Silent h g → IsolationInvariant w h → IsTaken w k q → PendingOne g q
taken_one w h g k q silent holds is =
    let before : PendingOne h (record q { stage = Waits }) = pending_one w.clients w.nodes h (record q { stage = Waits }) holds.requests.pending (inl is.waited) in
    record {
      begun = silent.on (Begin q.session q.start) before.begun;
      keys = before.keys ∙ sym (silent.keys q.start);
      some = before.some;
      so_far = subst (λ (stage : Stage). IsDrawnSoFar g q stage) (sym is.taken) (λ drew. before.so_far (silent_drawn h g q.start silent drew));
    }

-- the start of a commit that was accepted is above the epoch
not_old : (start epoch : ℕ) (b : Bool) → nat_le start epoch ≡ b → (if b then Some (OldEpoch start epoch) else None) ≡ None → epoch < start
not_old start epoch true is free = absurd (none-some _ (sym free))
not_old start epoch false is free = leb-false start epoch is

above_epoch : (i : InstanceEntry) (request : Request) (s t : ℕ) (keys : List ℕ) → request ≡ Commit s t keys → epoch_refusal i request ≡ None → i.epoch < t
above_epoch i request s t keys is free = not_old t i.epoch (nat_le t i.epoch) refl (subst (λ (r : Request). epoch_refusal i r ≡ None) is free)

accepted_within : (w : State) (h : List Item) (k : Accepted w) (s t : ℕ) (keys : List ℕ) → AcceptedSteadily w k → IsolationInvariant w h → k.held.request ≡ Commit s t keys → (k.i.epoch < t) × (t ≤ k.i.last)
accepted_within w h k s t keys steady holds is =
    let now : k.i.term ≡ w.master.term = accepts_now w.setup w.seen k.reading k.node w.nodes w.master k.i holds.numbers.ranges holds.numbers.leases k.at steady k.in_time in
    let mine : session_of k.held.request ≡ k.session = holds.requests.requests.own k.node k.session k.i k.held.request k.held.progress k.at (held_by k.i k.session k.held k.has) in
    let request : k.held.request ≡ Commit k.session t keys = is ∙ ap (λ q. Commit q t keys) (ap session_of (sym is) ∙ mine) in
    let q : InFlight = record { session = k.session; start = t; keys = keys; stage = Waits } in
    let waits : HeldPending w.nodes q = record { node = k.node; instance_of = k.i; progress_of = progress.Asked; at = k.at; held = record { held = k.held; has = k.has; asks = request; stands = k.asked }; stage_is = refl } in
    (above_epoch k.i k.held.request s t keys is k.in_epoch, begun_below_last w.nodes w.master h k.node k.i k.session t holds.numbers.ranges holds.numbers.drawn holds.numbers.begun k.at now (holds.requests.pending.begun q (inl waits)))

accepted_accepted : (w : State) (h : List Item) (k : Accepted w) → AcceptedSteadily w k → IsolationInvariant w h → AreAccepted (accepted_state w k).nodes
accepted_accepted w h k steady holds = record {
  within = λ n s t keys j at held. elim (instance_changed w.nodes k.node n (moved k.i k.session k.held progress.Accepted) j at) [
    | inl here ↦
        let mine : HeldBy (moved k.i k.session k.held progress.Accepted) s (Commit s t keys) progress.Accepted = subst (λ (x : InstanceEntry). HeldBy x s (Commit s t keys) progress.Accepted) here.1 held in
        elim (held_set k.i k.session s (Some (record k.held { progress = progress.Accepted })) mine.held mine.has) [
          | inl now ↦
              let within = accepted_within w h k s t keys steady holds (ap (λ x. x.request) (same_Some (record k.held { progress = progress.Accepted }) mine.held now.1) ∙ mine.asks) in
              (omega (arith, within.0, ap (λ x. x.epoch) here.1), omega (arith, within.1, ap (λ x. x.last) here.1))
          | inr old ↦
              let within = holds.requests.accepted.within k.node s t keys k.i k.at (record { held = mine.held; has = old.1; asks = mine.asks; stands = mine.stands }) in
              (omega (arith, within.0, ap (λ x. x.epoch) here.1), omega (arith, within.1, ap (λ x. x.last) here.1))
        ]
    | inr there ↦ holds.requests.accepted.within n s t keys j there.1 held
  ];
}

pub requests_accepted : (w : State) (h : List Item) (k : Accepted w) → AcceptedSteadily w k → IsolationInvariant w h → RequestFacts w.setup (accepted_state w k).nodes w.clients (h ++ k.items)
requests_accepted w h k steady holds =
    let g : List Item = h ++ k.items in
    let silent : Silent h g = silent_quiet h k.items k.quiet in
    record {
      have_begun = have_silent w.clients h g silent holds.requests.have_begun;
      requests = requests_fewer w.nodes (accepted_state w k).nodes w.clients (held_accepted w k) holds.requests.requests;
      starting = starting_silent w.nodes (accepted_state w k).nodes h g silent (standing_accepted IsDrawnNow w k (λ is. is)) holds.requests.starting;
      pending = are_pending w.clients (accepted_state w k).nodes g (λ q p. elim (pending_accepted w k q p) [
        | inl old ↦ pending_on h g q silent.on (stays_silent h g q silent) (pending_one w.clients w.nodes h q holds.requests.pending old)
        | inr new ↦ taken_one w h g k q silent holds new
      ]) (here_fewer w.nodes (accepted_state w k).nodes h g (standing_accepted IsDrawnNow w k (λ is. is)) silent.on holds.requests.pending.here);
      settled = settled_silent w.nodes (accepted_state w k).nodes h g silent (standing_accepted IsSettledNow w k (λ is. is)) holds.requests.settled;
      accepted = accepted_accepted w h k steady holds;
      opened = open_silent w.clients w.clients h g silent (λ s t e o. o) holds.requests.opened;
      keys = keys_silent w.clients h g silent holds.requests.keys;
      form = form_fewer w.setup w.clients w.clients w.nodes (accepted_state w k).nodes (standing_accepted IsDrawnNow w k (λ is. is)) (same_at_work w.clients).placing holds.requests.form;
    }
