-- Outcomes that move a commit in flight: one more that waits, one that is taken, one that has its commit while the others of
-- its instance see a later last stamp.
use Rattle.isolation_laws.proofs.Requests.ClientMoves.{at_work_after}
use Rattle.isolation_laws.proofs.Names.{OfAskedCommit, ◌≡◌, ◌≢◌, ℕ, ◌+◌, ◌<◌, Bool, true, false, List, Some, ◌⊎◌, inl}
use Rattle.isolation_laws.proofs.Names.{inr, refl, sym, ◌∙◌, ap, subst, arith, same_Some, Progress, Request, Commit}
use Rattle.isolation_laws.proofs.Names.{InstanceEntry, held_of, with_request, moved, just_asked, drawn_as, State}
use Rattle.isolation_laws.proofs.Names.{HeldBy, Stage, Waits, Taken, Has, InFlight, stage_of, HeldPending, Pending}
use Rattle.isolation_laws.proofs.Names.{IsStageBelow, ComesBelow, instance_changed, heldby_changed, AskedCommit}
use Rattle.isolation_laws.proofs.Names.{asked_commit_state, Accepted, accepted_state, Drew, drew_instance, drew_state}
use Rattle.system_parts.specs.declared.instance.Progress.TheVariants as progress
use Rattle.system_parts.specs.declared.instance.Request.TheVariants.{Begin}
use Rattle.isolation_laws.proofs.Requests.PendingAfter.{PendingIn, pending_in, pending_at}
use Rattle.isolation_laws.proofs.Requests.PendingFewer.{StaysElsewhere, StaysPut, stays_pending}
use Rattle.isolation_laws.proofs.Requests.ClientsOpen.{placing_was}

-- ---- outcomes that move a commit in flight
-- the request of the place is the one that was put there
commit_is : (r s t : ℕ) (keys : List ℕ) (q : InFlight) → Commit r t keys ≡ Commit q.session q.start q.keys → (q.session ≡ r) × (q.start ≡ t) × (q.keys ≡ keys)
commit_is r s t keys q same = (cc, cc, cc)

-- a commit that was asked now waits
pub record IsAsked (w : State) (k : AskedCommit w) (q : InFlight) : Type 0 where
  pub session_is : q.session ≡ k.session
  pub start_is : q.start ≡ k.start
  pub keys_are : q.keys ≡ k.c.entry.keys
  pub waits : q.stage ≡ Waits

stage_now : (a b : Stage) → Some a ≡ Some b → b ≡ a
stage_now a b same = sym (same_Some a b same)

asked_here : (w : State) (k : AskedCommit w) (q : InFlight) → PendingIn (with_request k.i k.session (Some (just_asked (Commit k.session k.start k.c.entry.keys)))) q → HeldPending w.nodes q ⊎ IsAsked w k q
asked_here w k q p = elim (heldby_changed k.i k.session q.session (just_asked (Commit k.session k.start k.c.entry.keys)) (Commit q.session q.start q.keys) p.progress_of p.held) [
  | inl here ↦ let same = commit_is k.session k.session k.start k.c.entry.keys q here.1 in
      inr (record {
        session_is = here.0;
        start_is = same.1;
        keys_are = same.2;
        waits = stage_now Waits q.stage (ap (stage_of k.i.last) here.2 ∙ p.stage_is);
      })
  | inr there ↦ inl (pending_at w.nodes q k.node k.i k.at (record { progress_of = p.progress_of; held = there.1; stage_is = p.stage_is }))
]

served_asked_commit : (w : State) (k : AskedCommit w) (q : InFlight) → HeldPending (asked_commit_state w k).nodes q → HeldPending w.nodes q ⊎ IsAsked w k q
served_asked_commit w k q p = elim (instance_changed w.nodes k.node p.node (with_request k.i k.session (Some (just_asked (Commit k.session k.start k.c.entry.keys)))) p.instance_of p.at) [
  | inl here ↦ asked_here w k q (subst (λ (x : InstanceEntry). PendingIn x q) here.1 (pending_in (asked_commit_state w k).nodes q p))
  | inr there ↦ inl (pending_at w.nodes q p.node p.instance_of there.1 (pending_in (asked_commit_state w k).nodes q p))
]

pub pending_asked_commit : (w : State) (k : AskedCommit w) (q : InFlight) → Pending (asked_commit_state w k).clients (asked_commit_state w k).nodes q → Pending w.clients w.nodes q ⊎ IsAsked w k q
pending_asked_commit w k q (inl p) = elim (served_asked_commit w k q p) [ inl old ↦ inl (inl old) | inr new ↦ inr new ]
pending_asked_commit w k q (inr p) = inl (inr (placing_was w.clients (asked_commit_state w k).clients q (at_work_after w (OfAskedCommit k) refl).placing p))

-- a commit that was accepted is taken by an instance with this last stamp
pub record IsTaken (w : State) (k : Accepted w) (q : InFlight) : Type 0 where
  pub session_is : q.session ≡ k.session
  pub request_is : k.held.request ≡ Commit q.session q.start q.keys
  pub taken : q.stage ≡ Taken k.i.last
  pub waited : HeldPending w.nodes (record q { stage = Waits })

taken_here : (w : State) (k : Accepted w) (q : InFlight) → PendingIn (moved k.i k.session k.held progress.Accepted) q → HeldPending w.nodes q ⊎ IsTaken w k q
taken_here w k q p = elim (heldby_changed k.i k.session q.session (record k.held { progress = progress.Accepted }) (Commit q.session q.start q.keys) p.progress_of p.held) [
  | inl here ↦ inr (record {
    session_is = here.0;
    request_is = here.1;
    taken = stage_now (Taken k.i.last) q.stage (ap (stage_of k.i.last) here.2 ∙ p.stage_is);
    waited = pending_at w.nodes (record q { stage = Waits }) k.node k.i k.at (record {
      progress_of = progress.Asked;
      held = record { held = k.held; has = ap (λ s. held_of k.i s) here.0 ∙ k.has; asks = here.1; stands = k.asked };
      stage_is = refl;
    });
  })
  | inr there ↦ inl (pending_at w.nodes q k.node k.i k.at (record { progress_of = p.progress_of; held = there.1; stage_is = p.stage_is }))
]

served_accepted : (w : State) (k : Accepted w) (q : InFlight) → HeldPending (accepted_state w k).nodes q → HeldPending w.nodes q ⊎ IsTaken w k q
served_accepted w k q p = elim (instance_changed w.nodes k.node p.node (moved k.i k.session k.held progress.Accepted) p.instance_of p.at) [
  | inl here ↦ taken_here w k q (subst (λ (x : InstanceEntry). PendingIn x q) here.1 (pending_in (accepted_state w k).nodes q p))
  | inr there ↦ inl (pending_at w.nodes q p.node p.instance_of there.1 (pending_in (accepted_state w k).nodes q p))
]

pub pending_accepted : (w : State) (k : Accepted w) (q : InFlight) → Pending w.clients (accepted_state w k).nodes q → Pending w.clients w.nodes q ⊎ IsTaken w k q
pending_accepted w k q (inl p) = elim (served_accepted w k q p) [ inl old ↦ inl (inl old) | inr new ↦ inr new ]
pending_accepted w k q (inr p) = inl (inr p)

-- the one that drew has its commit
pub record IsDrawnNow (w : State) (k : Drew w) (q : InFlight) : Type 0 where
  pub session_is : q.session ≡ k.session
  pub request_is : k.held.request ≡ Commit q.session q.start q.keys
  pub has : q.stage ≡ Has (k.i.last + 1)
  pub was_taken : HeldPending w.nodes (record q { stage = Taken k.i.last })

-- another that the instance has taken sees the later last stamp
pub record IsOlder (w : State) (k : Drew w) (q : InFlight) : Type 0 where
  pub other : q.session ≢ k.session
  pub taken : q.stage ≡ Taken (k.i.last + 1)
  pub was_taken : HeldPending w.nodes (record q { stage = Taken k.i.last })

-- of a commit that another instance's last stamp stands beside: the stage but for that stamp
older_stage : (last : ℕ) (p : Progress) (stage : Stage) → stage_of (last + 1) p ≡ Some stage → (stage_of last p ≡ Some stage) ⊎ ((stage ≡ Taken (last + 1)) × (stage_of last p ≡ Some (Taken last)))
older_stage last progress.Accepted stage is = inr (stage_now (Taken (last + 1)) stage is, refl)
older_stage last _ stage is = inl is

drawn_other : (w : State) (k : Drew w) (q : InFlight) → q.session ≢ k.session → (p : PendingIn (drew_instance w k) q) → HeldBy k.i q.session (Commit q.session q.start q.keys) p.progress_of → StaysElsewhere w.nodes k.node k.session q ⊎ (IsOlder w k q ⊎ IsDrawnNow w k q)
drawn_other w k q other p held = elim (older_stage k.i.last p.progress_of q.stage p.stage_is) [
  | inl same ↦ inl (pending_at w.nodes q k.node k.i k.at (record { progress_of = p.progress_of; held = held; stage_is = same }), λ is. other is.1)
  | inr older ↦ inr (inl (record {
    other = other;
    taken = older.0;
    was_taken = pending_at w.nodes (record q { stage = Taken k.i.last }) k.node k.i k.at (record { progress_of = p.progress_of; held = held; stage_is = older.1 });
  }))
]

-- what is drawn for a request
pub drawn_stage : (direct : Bool) (request : Request) (stamp last : ℕ) → stage_of last (drawn_as direct request stamp) ≡ Some (Has stamp)
drawn_stage true (Commit s t keys) stamp last = refl
drawn_stage true (Begin s) stamp last = refl
drawn_stage false request stamp last = refl

drawn_here : (w : State) (k : Drew w) (q : InFlight) → PendingIn (drew_instance w k) q → StaysElsewhere w.nodes k.node k.session q ⊎ (IsOlder w k q ⊎ IsDrawnNow w k q)
drawn_here w k q p = elim (heldby_changed k.i k.session q.session (record k.held { progress = drawn_as k.i.direct k.held.request (k.i.last + 1) }) (Commit q.session q.start q.keys) p.progress_of (record { held = p.held.held; has = p.held.has; asks = p.held.asks; stands = p.held.stands })) [
  | inl here ↦ inr (inr (record {
    session_is = here.0;
    request_is = here.1;
    has = stage_now (Has (k.i.last + 1)) q.stage (sym (drawn_stage k.i.direct k.held.request (k.i.last + 1) (k.i.last + 1)) ∙ (ap (stage_of (k.i.last + 1)) here.2 ∙ p.stage_is));
    was_taken = pending_at w.nodes (record q { stage = Taken k.i.last }) k.node k.i k.at (record {
      progress_of = progress.Accepted;
      held = record { held = k.held; has = ap (λ s. held_of k.i s) here.0 ∙ k.has; asks = here.1; stands = k.accepted };
      stage_is = refl;
    });
  }))
  | inr there ↦ drawn_other w k q there.0 p there.1
]

served_drew : (w : State) (k : Drew w) (q : InFlight) → HeldPending (drew_state w k).nodes q → StaysElsewhere w.nodes k.node k.session q ⊎ (IsOlder w k q ⊎ IsDrawnNow w k q)
served_drew w k q p = elim (instance_changed w.nodes k.node p.node (drew_instance w k) p.instance_of p.at) [
  | inl here ↦ drawn_here w k q (subst (λ (x : InstanceEntry). PendingIn x q) here.1 (pending_in (drew_state w k).nodes q p))
  | inr there ↦ inl (pending_at w.nodes q p.node p.instance_of there.1 (pending_in (drew_state w k).nodes q p), λ same. there.0 same.0)
]

pub pending_drew : (w : State) (k : Drew w) (q : InFlight) → Pending w.clients (drew_state w k).nodes q → StaysPut w.clients w.nodes k.node k.session q ⊎ (IsOlder w k q ⊎ IsDrawnNow w k q)
pending_drew w k q (inl p) = elim (served_drew w k q p) [ inl old ↦ inl (inl old) | inr new ↦ inr new ]
pending_drew w k q (inr p) = inl (inr p)

-- ---- what may come below a start
below_less : (last b : ℕ) → last + 1 < b → last < b
below_less last b below = omega (arith, below)

-- what waits does not come yet
pub comes_asked_commit : (w : State) (k : AskedCommit w) (b t : ℕ) → ComesBelow (asked_commit_state w k).clients (asked_commit_state w k).nodes b t → ComesBelow w.clients w.nodes b t
comes_asked_commit w k b t c = elim (pending_asked_commit w k c.coming c.pending) [
  | inl old ↦ record { coming = c.coming; pending = old; start_is = c.start_is; below = c.below }
  | inr new ↦ absurd (subst (IsStageBelow b) new.waits c.below)
]

pub comes_accepted : (w : State) (k : Accepted w) (b t : ℕ) → ComesBelow w.clients (accepted_state w k).nodes b t → ComesBelow w.clients w.nodes b t ⊎ ((q : InFlight) × IsTaken w k q × (q.start ≡ t) × (k.i.last < b))
comes_accepted w k b t c = elim (pending_accepted w k c.coming c.pending) [
  | inl old ↦ inl (record { coming = c.coming; pending = old; start_is = c.start_is; below = c.below })
  | inr new ↦ inr (c.coming, new, c.start_is, subst (IsStageBelow b) new.taken c.below)
]

-- what has its commit now, and what sees a later last stamp, came below the start before
pub comes_drew : (w : State) (k : Drew w) (b t : ℕ) → ComesBelow w.clients (drew_state w k).nodes b t → ComesBelow w.clients w.nodes b t
comes_drew w k b t c = elim (pending_drew w k c.coming c.pending) [
  | inl old ↦ record { coming = c.coming; pending = stays_pending w.clients w.nodes k.node k.session c.coming old; start_is = c.start_is; below = c.below }
  | inr (inl older) ↦ record { coming = record c.coming { stage = Taken k.i.last }; pending = inl older.was_taken; start_is = c.start_is; below = below_less k.i.last b (subst (IsStageBelow b) older.taken c.below) }
  | inr (inr drawn) ↦ record { coming = record c.coming { stage = Taken k.i.last }; pending = inl drawn.was_taken; start_is = c.start_is; below = below_less k.i.last b (subst (IsStageBelow b) drawn.has c.below) }
]
