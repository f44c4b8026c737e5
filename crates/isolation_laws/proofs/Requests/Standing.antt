-- What each outcome leaves of the requests that stand somewhere.
use Rattle.isolation_laws.proofs.Names.{◌≡◌, ℕ, ◌+◌, ◌≤◌, Bool, true, false, List, Option, Some, None, inl, inr, refl}
use Rattle.isolation_laws.proofs.Names.{sym, ◌∙◌, ap, subst, arith, Settled, slice_set, same_Some, none-some, granted}
use Rattle.isolation_laws.proofs.Names.{renewed_until, Held, Progress, Request, Commit, InstanceEntry, with_request}
use Rattle.isolation_laws.proofs.Names.{without_request, drawn_as, just_asked, instance_widened, instance_renewed}
use Rattle.isolation_laws.proofs.Names.{State, rules_of, instance_of, InstanceAt, HeldBy, instance_changed}
use Rattle.isolation_laws.proofs.Names.{instance_ended, held_set, AlikeNodes, Granted, granted_nodes, granted_state}
use Rattle.isolation_laws.proofs.Names.{Renewed, renewed_nodes, renewed_state, Extended, extended_nodes, extended_state}
use Rattle.isolation_laws.proofs.Names.{AskedBegin, asked_begin_state, AskedCommit, asked_commit_state, Accepted}
use Rattle.isolation_laws.proofs.Names.{accepted_state, Drew, drew_instance, drew_state, AtDrawn, settled_nodes}
use Rattle.system_parts.specs.declared.instance.Progress.TheVariants as progress
use Rattle.system_parts.specs.declared.instance.Request.TheVariants.{Begin}
use Rattle.isolation_laws.proofs.Requests.PendingAfter.{new_holds_none, same_requests}
use Rattle.isolation_laws.proofs.Requests.RequestsAfter.{FewerHeld, held_changed, held_moved}
use Rattle.isolation_laws.proofs.Requests.CommitsInFlight.{FewerStanding, IsSettledNow, IsAcceptedNow}

-- ---- all as it was
pub standing_same : (P : Progress → Type 0) (nodes : List (Option InstanceEntry)) → FewerStanding P nodes nodes
standing_same P nodes = record { each = λ n s j request p is at held. (j, at, held, refl, refl, omega arith) }

pub held_same : (nodes : List (Option InstanceEntry)) → FewerHeld nodes nodes
held_same nodes = record { each = λ n s j request p at held. (j, p, at, held) }

pub standing_alike : (P : Progress → Type 0) (old new : List (Option InstanceEntry)) → AlikeNodes old new → FewerStanding P old new
standing_alike P old new alike = record {
  each = λ n s j request p is at held.
      let was = alike.each n j at in
      let before = was.2.requests s held.held held.has in
      (was.0, was.1, record { held = before.0; has = before.1; asks = sym before.2 ∙ held.asks; stands = sym before.3 ∙ held.stands }, was.2.term, was.2.epoch, omega (arith, was.2.last));
}

pub held_alike : (old new : List (Option InstanceEntry)) → AlikeNodes old new → FewerHeld old new
held_alike old new alike = record {
  each = λ n s j request p at held.
      let was = alike.each n j at in
      let before = was.2.requests s held.held held.has in
      (was.0, p, was.1, record { held = before.0; has = before.1; asks = sym before.2 ∙ held.asks; stands = sym before.3 ∙ held.stands });
}

pub standing_ended : (P : Progress → Type 0) (nodes : List (Option InstanceEntry)) (n : ℕ) → FewerStanding P nodes (slice_set nodes n None)
standing_ended P nodes n = record { each = λ m s j request p is at held. (j, (instance_ended nodes n m j at).1, held, refl, refl, omega arith) }

-- ---- an instance in the place of another, of the same term and epoch
pub standing_changed : (P : Progress → Type 0) (nodes : List (Option InstanceEntry)) (n : ℕ) (i j : InstanceEntry) → InstanceAt nodes n i → j.term ≡ i.term → j.epoch ≡ i.epoch → i.last ≤ j.last → ((s : ℕ) (request : Request) (p : Progress) → P p → HeldBy j s request p → HeldBy i s request p) → FewerStanding P nodes (slice_set nodes n (Some j))
standing_changed P nodes n i j at term epoch last kept = record {
  each = λ m s x request p is there held. elim (instance_changed nodes n m j x there) [
    | inl here ↦ (i, subst (λ q. InstanceAt nodes q i) (sym here.0) at, kept s request p is (subst (λ (y : InstanceEntry). HeldBy y s request p) here.1 held), ap (λ y. y.term) here.1 ∙ term, ap (λ y. y.epoch) here.1 ∙ epoch, omega (arith, last, ap (λ y. y.last) here.1))
    | inr other ↦ (x, other.1, held, refl, refl, omega arith)
  ];
}

-- one request was set, and does not stand there
pub kept_set : (P : Progress → Type 0) (i : InstanceEntry) (s : ℕ) (now : Held) → (P now.progress → ⊥) → (r : ℕ) (request : Request) (p : Progress) → P p → HeldBy (with_request i s (Some now)) r request p → HeldBy i r request p
kept_set P i s now other r request p is h = elim (held_set i s r (Some now) h.held h.has) [
  | inl here ↦ absurd (other (subst P (sym (ap (λ x. x.progress) (same_Some now h.held here.1) ∙ h.stands)) is))
  | inr there ↦ record { held = h.held; has = there.1; asks = h.asks; stands = h.stands }
]

pub kept_over : (P : Progress → Type 0) (i : InstanceEntry) (s r : ℕ) (request : Request) (p : Progress) → P p → HeldBy (with_request i s None) r request p → HeldBy i r request p
kept_over P i s r request p is h = elim (held_set i s r None h.held h.has) [
  | inl here ↦ absurd (none-some h.held here.1)
  | inr there ↦ record { held = h.held; has = there.1; asks = h.asks; stands = h.stands }
]

-- ---- outcomes of the record
granted_standing : (P : Progress → Type 0) (w : State) (k : Granted w) (failed : Bool) → FewerStanding P w.nodes (granted_nodes w k failed)
granted_standing P w k true = standing_same P w.nodes
granted_standing P w k false = record {
  each = λ m s x request p is there held. elim (instance_changed w.nodes k.node m (instance_of w.setup k.node (granted (rules_of w.setup) w.master k.reading)) x there) [
    | inl here ↦ absurd (new_holds_none (granted (rules_of w.setup) w.master k.reading) k.node w.setup.buckets w.setup.width w.setup.slots w.setup.direct s request p (subst (λ (y : InstanceEntry). HeldBy y s request p) here.1 held))
    | inr other ↦ (x, other.1, held, refl, refl, omega arith)
  ];
}

pub standing_granted : (P : Progress → Type 0) (w : State) (k : Granted w) → FewerStanding P w.nodes (granted_state w k).nodes
standing_granted P w k = granted_standing P w k k.failed

granted_held : (w : State) (k : Granted w) (failed : Bool) → FewerHeld w.nodes (granted_nodes w k failed)
granted_held w k true = held_same w.nodes
granted_held w k false = record {
  each = λ m s x request p there held. elim (instance_changed w.nodes k.node m (instance_of w.setup k.node (granted (rules_of w.setup) w.master k.reading)) x there) [
    | inl here ↦ absurd (new_holds_none (granted (rules_of w.setup) w.master k.reading) k.node w.setup.buckets w.setup.width w.setup.slots w.setup.direct s request p (subst (λ (y : InstanceEntry). HeldBy y s request p) here.1 held))
    | inr other ↦ (x, p, other.1, held)
  ];
}

pub held_granted : (w : State) (k : Granted w) → FewerHeld w.nodes (granted_state w k).nodes
held_granted w k = granted_held w k k.failed

renewed_standing : (P : Progress → Type 0) (w : State) (k : Renewed w) (failed : Bool) → FewerStanding P w.nodes (renewed_nodes w k failed)
renewed_standing P w k true = standing_same P w.nodes
renewed_standing P w k false = standing_changed P w.nodes k.node k.i (instance_renewed k.i (renewed_until (rules_of w.setup) w.master k.reading)) k.at refl refl (omega arith) (λ s request p is. same_requests k.i (instance_renewed k.i (renewed_until (rules_of w.setup) w.master k.reading)) refl s request p)

pub standing_renewed : (P : Progress → Type 0) (w : State) (k : Renewed w) → FewerStanding P w.nodes (renewed_state w k).nodes
standing_renewed P w k = renewed_standing P w k k.failed

renewed_held : (w : State) (k : Renewed w) (failed : Bool) → FewerHeld w.nodes (renewed_nodes w k failed)
renewed_held w k true = held_same w.nodes
renewed_held w k false = held_changed w.nodes k.node k.i (instance_renewed k.i (renewed_until (rules_of w.setup) w.master k.reading)) k.at (λ s request p held. (p, same_requests k.i (instance_renewed k.i (renewed_until (rules_of w.setup) w.master k.reading)) refl s request p held))

pub held_renewed : (w : State) (k : Renewed w) → FewerHeld w.nodes (renewed_state w k).nodes
held_renewed w k = renewed_held w k k.failed

extended_standing : (P : Progress → Type 0) (w : State) (k : Extended w) (failed : Bool) → FewerStanding P w.nodes (extended_nodes w k failed)
extended_standing P w k true = standing_same P w.nodes
extended_standing P w k false = standing_changed P w.nodes k.node k.i (instance_widened k.i (w.master.ceiling + w.setup.range)) k.at refl refl (omega arith) (λ s request p is. same_requests k.i (instance_widened k.i (w.master.ceiling + w.setup.range)) refl s request p)

pub standing_extended : (P : Progress → Type 0) (w : State) (k : Extended w) → FewerStanding P w.nodes (extended_state w k).nodes
standing_extended P w k = extended_standing P w k k.failed

extended_held : (w : State) (k : Extended w) (failed : Bool) → FewerHeld w.nodes (extended_nodes w k failed)
extended_held w k true = held_same w.nodes
extended_held w k false = held_changed w.nodes k.node k.i (instance_widened k.i (w.master.ceiling + w.setup.range)) k.at (λ s request p held. (p, same_requests k.i (instance_widened k.i (w.master.ceiling + w.setup.range)) refl s request p held))

pub held_extended : (w : State) (k : Extended w) → FewerHeld w.nodes (extended_state w k).nodes
held_extended w k = extended_held w k k.failed

-- ---- outcomes of requests
pub standing_asked_begin : (P : Progress → Type 0) (w : State) (k : AskedBegin w) → (P progress.Asked → ⊥) → FewerStanding P w.nodes (asked_begin_state w k).nodes
standing_asked_begin P w k other = standing_changed P w.nodes k.node k.i _ k.at refl refl (omega arith) (kept_set P k.i k.session (just_asked (Begin k.session)) other)

pub standing_asked_commit : (P : Progress → Type 0) (w : State) (k : AskedCommit w) → (P progress.Asked → ⊥) → FewerStanding P w.nodes (asked_commit_state w k).nodes
standing_asked_commit P w k other = standing_changed P w.nodes k.node k.i _ k.at refl refl (omega arith) (kept_set P k.i k.session (just_asked (Commit k.session k.start k.c.entry.keys)) other)

pub standing_accepted : (P : Progress → Type 0) (w : State) (k : Accepted w) → (P progress.Accepted → ⊥) → FewerStanding P w.nodes (accepted_state w k).nodes
standing_accepted P w k other = standing_changed P w.nodes k.node k.i _ k.at refl refl (omega arith) (kept_set P k.i k.session (record k.held { progress = progress.Accepted }) other)

pub standing_over : (P : Progress → Type 0) (nodes : List (Option InstanceEntry)) (n s : ℕ) (i : InstanceEntry) → InstanceAt nodes n i → FewerStanding P nodes (slice_set nodes n (Some (without_request i s)))
standing_over P nodes n s i at = standing_changed P nodes n i (without_request i s) at refl refl (omega arith) (kept_over P i s)

-- what was drawn neither waits to be accepted nor to be drawn, and is not settled
pub drawn_not_settled : (direct : Bool) (request : Request) (stamp : ℕ) → IsSettledNow (drawn_as direct request stamp) → ⊥
drawn_not_settled true (Commit s t keys) stamp is = is
drawn_not_settled true (Begin s) stamp is = is
drawn_not_settled false request stamp is = is

pub drawn_not_accepted : (direct : Bool) (request : Request) (stamp : ℕ) → IsAcceptedNow (drawn_as direct request stamp) → ⊥
drawn_not_accepted true (Commit s t keys) stamp is = is
drawn_not_accepted true (Begin s) stamp is = is
drawn_not_accepted false request stamp is = is

pub standing_drew : (P : Progress → Type 0) (w : State) (k : Drew w) → (P (drawn_as k.i.direct k.held.request (k.i.last + 1)) → ⊥) → FewerStanding P w.nodes (drew_state w k).nodes
standing_drew P w k other = standing_changed P w.nodes k.node k.i (drew_instance w k) k.at refl refl (omega arith)
    (λ s request p is h. kept_set P k.i k.session (record k.held { progress = drawn_as k.i.direct k.held.request (k.i.last + 1) }) other s request p is (record { held = h.held; has = h.has; asks = h.asks; stands = h.stands }))

pub standing_settled : (P : Progress → Type 0) (w : State) (it : AtDrawn w) (by : Settled) → (P (progress.Settled it.commit by) → ⊥) → FewerStanding P w.nodes (settled_nodes w it by)
standing_settled P w it by other = standing_changed P w.nodes it.node it.i _ it.at refl refl (omega arith) (kept_set P it.i it.session (record it.held { progress = progress.Settled it.commit by }) other)

-- ---- the same requests, wherever they stand
pub held_accepted : (w : State) (k : Accepted w) → FewerHeld w.nodes (accepted_state w k).nodes
held_accepted w k = held_changed w.nodes k.node k.i _ k.at (held_moved k.i k.session k.held (record k.held { progress = progress.Accepted }) k.has refl)

pub held_drew : (w : State) (k : Drew w) → FewerHeld w.nodes (drew_state w k).nodes
held_drew w k = held_changed w.nodes k.node k.i (drew_instance w k) k.at (λ s request p h. held_moved k.i k.session k.held (record k.held { progress = drawn_as k.i.direct k.held.request (k.i.last + 1) }) k.has refl s request p (record { held = h.held; has = h.has; asks = h.asks; stands = h.stands }))

pub held_settled : (w : State) (it : AtDrawn w) (by : Settled) → FewerHeld w.nodes (settled_nodes w it by)
held_settled w it by = held_changed w.nodes it.node it.i _ it.at (held_moved it.i it.session it.held (record it.held { progress = progress.Settled it.commit by }) it.has refl)
