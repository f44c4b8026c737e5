-- For cause_laws too.
-- The commits in flight of a list of nodes, by the instance that holds them, and where one instance takes the place of another.
use Rattle.isolation_laws.proofs.Names.{◌≡◌, ◌≢◌, ℕ, zero, suc, Bool, true, false, refl, List, Option, Some, None, inl}
use Rattle.isolation_laws.proofs.Names.{inr, sym, ◌∙◌, ap, subst, slice_set, slice_index_or, replicate, none-some, Held}
use Rattle.isolation_laws.proofs.Names.{Progress, Request, Commit, Settled, InstanceEntry, with_request, instance_new}
use Rattle.isolation_laws.proofs.Names.{held_of, without_request, moved, just_asked, drawn_as, Client, InstanceAt}
use Rattle.isolation_laws.proofs.Names.{HeldBy, Stage, InFlight, stage_of, HeldPending, Pending, instance_changed}
use Rattle.isolation_laws.proofs.Names.{instance_ended, heldby_ended, heldby_changed, Alike}
use Rattle.system_parts.specs.declared.record.Grant.{Grant}
use Rattle.system_parts.specs.declared.instance.Progress.TheVariants as progress
use Rattle.system_parts.specs.declared.instance.Request.TheVariants.{Begin}
use Rattle.isolation_laws.proofs.Requests.ClientsOpen.{FewerPlacing, placing_was}

-- a commit in flight at an instance
pub record PendingIn (i : InstanceEntry) (q : InFlight) : Type 0 where
  pub progress_of : Progress
  pub held : HeldBy i q.session (Commit q.session q.start q.keys) progress_of
  pub stage_is : stage_of i.last progress_of ≡ Some q.stage

pub pending_in : (nodes : List (Option InstanceEntry)) (q : InFlight) (p : HeldPending nodes q) → PendingIn p.instance_of q
pending_in nodes q p = record { progress_of = p.progress_of; held = p.held; stage_is = p.stage_is }

abbrev pub pending_at : (nodes : List (Option InstanceEntry)) (q : InFlight) (n : ℕ) (i : InstanceEntry) → InstanceAt nodes n i → PendingIn i q → HeldPending nodes q
pending_at nodes q n i at p = record {
  node = n;
  instance_of = i;
  progress_of = p.progress_of;
  at = at;
  held = p.held;
  stage_is = p.stage_is;
}

-- all that is held was held before, and all that is pending was pending
abbrev pub FewerServed : List (Option InstanceEntry) → List (Option InstanceEntry) → Type 0
FewerServed old new = (q : InFlight) → HeldPending new q → HeldPending old q

abbrev pub FewerPending : List Client → List (Option InstanceEntry) → List Client → List (Option InstanceEntry) → Type 0
FewerPending clients nodes new_clients new_nodes = (q : InFlight) → Pending new_clients new_nodes q → Pending clients nodes q

pub fewer_pending : (clients new_clients : List Client) (nodes new_nodes : List (Option InstanceEntry)) → FewerPlacing clients new_clients → FewerServed nodes new_nodes → FewerPending clients nodes new_clients new_nodes
fewer_pending clients new_clients nodes new_nodes placing served q (inl p) = inl (served q p)
fewer_pending clients new_clients nodes new_nodes placing served q (inr p) = inr (placing_was clients new_clients q placing p)

abbrev pub NoneMore : InstanceEntry → InstanceEntry → Type 0
NoneMore old new = (q : InFlight) → PendingIn new q → PendingIn old q

-- an instance with no more commits in flight took the place of another
pub fewer_changed : (nodes : List (Option InstanceEntry)) (n : ℕ) (i j : InstanceEntry) → InstanceAt nodes n i → NoneMore i j → FewerServed nodes (slice_set nodes n (Some j))
fewer_changed nodes n i j at fewer q p = elim (instance_changed nodes n p.node j p.instance_of p.at) [
  | inl here ↦ pending_at nodes q n i at (fewer q (subst (λ (x : InstanceEntry). PendingIn x q) here.1 (pending_in (slice_set nodes n (Some j)) q p)))
  | inr there ↦ pending_at nodes q p.node p.instance_of there.1 (pending_in (slice_set nodes n (Some j)) q p)
]

pub fewer_ended : (nodes : List (Option InstanceEntry)) (n : ℕ) → FewerServed nodes (slice_set nodes n None)
fewer_ended nodes n q p = pending_at nodes q p.node p.instance_of (instance_ended nodes n p.node p.instance_of p.at).1 (pending_in (slice_set nodes n None) q p)

-- ---- instances
-- the same requests, with the same numbers
pub none_more_alike : (i j : InstanceEntry) → Alike i j → NoneMore i j
none_more_alike i j same q p =
    let old = same.requests q.session p.held.held p.held.has in
    record {
      progress_of = p.progress_of;
      held = record { held = old.0; has = old.1; asks = sym old.2 ∙ p.held.asks; stands = sym old.3 ∙ p.held.stands };
      stage_is = ap (λ last. stage_of last p.progress_of) (sym same.last) ∙ p.stage_is;
    }

pub same_requests : (i j : InstanceEntry) → j.requests ≡ i.requests → (s : ℕ) (request : Request) (p : Progress) → HeldBy j s request p → HeldBy i s request p
same_requests i j same s request p h = record { held = h.held; has = ap (λ xs. held_of (record i { requests = xs }) s) (sym same) ∙ h.has; asks = h.asks; stands = h.stands }

-- the same requests and last stamp
pub none_more_same : (i j : InstanceEntry) → j.requests ≡ i.requests → j.last ≡ i.last → NoneMore i j
none_more_same i j requests last q p = record {
  progress_of = p.progress_of;
  held = same_requests i j requests q.session (Commit q.session q.start q.keys) p.progress_of p.held;
  stage_is = ap (λ x. stage_of x p.progress_of) (sym last) ∙ p.stage_is;
}

-- one request has ended
pub none_more_ended : (i : InstanceEntry) (s : ℕ) → NoneMore i (without_request i s)
none_more_ended i s q p = record {
  progress_of = p.progress_of;
  held = (heldby_ended i s q.session (Commit q.session q.start q.keys) p.progress_of p.held).1;
  stage_is = p.stage_is;
}

pub begin_is_no_commit : (r s t : ℕ) (keys : List ℕ) → Begin r ≡ Commit s t keys → ⊥
begin_is_no_commit r s t keys same = cc

-- a begin was asked
pub none_more_begun : (i : InstanceEntry) (s : ℕ) → NoneMore i (with_request i s (Some (just_asked (Begin s))))
none_more_begun i s q p = elim (heldby_changed i s q.session (just_asked (Begin s)) (Commit q.session q.start q.keys) p.progress_of p.held) [
  | inl here ↦ absurd (begin_is_no_commit s q.session q.start q.keys here.1)
  | inr there ↦ record { progress_of = p.progress_of; held = there.1; stage_is = p.stage_is }
]

settled_no_stage : (last commit : ℕ) (by : Settled) (p : Progress) (stage : Stage) → progress.Settled commit by ≡ p → stage_of last p ≡ Some stage → ⊥
settled_no_stage last commit by p stage same is =
    none-some stage (ap (stage_of last) same ∙ is)

-- a commit was settled
pub settled_cases : (i : InstanceEntry) (s commit : ℕ) (by : Settled) (held : Held) (q : InFlight) → PendingIn (moved i s held (progress.Settled commit by)) q → (q.session ≢ s) × PendingIn i q
settled_cases i s commit by held q p = elim (heldby_changed i s q.session (record held { progress = progress.Settled commit by }) (Commit q.session q.start q.keys) p.progress_of p.held) [
  | inl here ↦ absurd (settled_no_stage i.last commit by p.progress_of q.stage here.2 p.stage_is)
  | inr there ↦ (there.0, record { progress_of = p.progress_of; held = there.1; stage_is = p.stage_is })
]

no_request_held : (n s : ℕ) (held : Held) → slice_index_or (replicate n None) s None ≡ Some held → ⊥
no_request_held zero s held found = cc
no_request_held (suc n) zero held found = cc
no_request_held (suc n) (suc s) held found = no_request_held n s held found

-- a new instance holds no request
pub new_holds_none : (grant : Grant) (node count width slots : ℕ) (direct : Bool) (s : ℕ) (request : Request) (p : Progress) → HeldBy (instance_new grant node count width slots direct) s request p → ⊥
new_holds_none grant node count width slots direct s request p h = no_request_held 16 s h.held h.has

pub drawn_same : (a b : ℕ) → progress.Drawn a ≡ progress.Drawn b → a ≡ b
drawn_same a b same = cc

-- ---- what a draw leaves
pub drawn_as_stamp : (direct : Bool) (request : Request) (stamp t : ℕ) → drawn_as direct request stamp ≡ progress.Drawn t → stamp ≡ t
drawn_as_stamp true (Commit s u keys) stamp t is = absurd (cc)
drawn_as_stamp true (Begin s) stamp t is = cc
drawn_as_stamp false request stamp t is = cc

pub handed_is_direct : (direct : Bool) (request : Request) (stamp t : ℕ) → drawn_as direct request stamp ≡ progress.Handed t → direct ≡ true
handed_is_direct true request stamp t is = refl
handed_is_direct false request stamp t is = absurd (cc)
