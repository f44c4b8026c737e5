-- For isolation_laws, cause_laws, request_completion and others above too.
-- What is found in a list after one place was set: at that place what was put there, elsewhere what was there.
use Rattle.machine.proofs.Names.{◌≡◌, ◌≢◌, ℕ, zero, suc, List, [], ◌∷◌, Option, Some, None, ◌⊎◌, inl, inr, refl, sym}
use Rattle.machine.proofs.Names.{◌∙◌, ap, arith, slice_get, slice_set, slice_index_or, same_Some, none-some, Held}
use Rattle.machine.proofs.Names.{Progress, Request, BeginRequest, Commit, InstanceEntry, held_of, with_request}
use Rattle.machine.proofs.Names.{session_of, Client, InstanceAt, HeldBy, ClientAt}
pub use Rattle.machine.proofs.Refusals.{set_same}

suc_same : (a b : ℕ) → suc a ≡ suc b → a ≡ b
suc_same a b same = omega (arith, same)

-- ---- lists
pub set_found : {X : Type 0} (xs : List X) (p : ℕ) (x old : X) → slice_get xs p ≡ Some old → slice_get (slice_set xs p x) p ≡ Some x
set_found [] p x old there = absurd (cc)
set_found (y ∷ ys) zero x old there = refl
set_found (y ∷ ys) (suc p) x old there = set_found ys p x old there

pub set_other : {X : Type 0} (xs : List X) (p q : ℕ) (x : X) → q ≢ p → slice_get (slice_set xs p x) q ≡ slice_get xs q
set_other [] p q x other = refl
set_other (y ∷ ys) zero zero x other = absurd (other refl)
set_other (y ∷ ys) zero (suc q) x other = refl
set_other (y ∷ ys) (suc p) zero x other = refl
set_other (y ∷ ys) (suc p) (suc q) x other = set_other ys p q x (λ same. other (ap suc same))

-- what is found after a set is what was put there, or what was there
pub set_cases : {X : Type 0} (xs : List X) (p q : ℕ) (x y : X) → slice_get (slice_set xs p x) q ≡ Some y → ((q ≡ p) × (y ≡ x)) ⊎ ((q ≢ p) × (slice_get xs q ≡ Some y))
set_cases [] p q x y found = absurd (cc)
set_cases (z ∷ zs) zero zero x y found = inl (refl, sym (same_Some x y found))
set_cases (z ∷ zs) zero (suc q) x y found = inr (λ same. cc, found)
set_cases (z ∷ zs) (suc p) zero x y found = inr (λ same. cc, found)
set_cases (z ∷ zs) (suc p) (suc q) x y found = elim (set_cases zs p q x y found) [
  | inl here ↦ inl (ap suc here.0, here.1)
  | inr there ↦ inr (λ same. there.0 (suc_same q p same), there.1)
]

-- ---- nodes
pub instance_set : (nodes : List (Option InstanceEntry)) (n m : ℕ) (post : Option InstanceEntry) (j : InstanceEntry) → InstanceAt (slice_set nodes n post) m j → ((m ≡ n) × (post ≡ Some j)) ⊎ ((m ≢ n) × InstanceAt nodes m j)
instance_set nodes n m post j at = elim (set_cases nodes n m post (Some j) at) [
  | inl here ↦ inl (here.0, sym here.1)
  | inr there ↦ inr there
]

-- an instance was set in the place of another
pub instance_changed : (nodes : List (Option InstanceEntry)) (n m : ℕ) (i j : InstanceEntry) → InstanceAt (slice_set nodes n (Some i)) m j → ((m ≡ n) × (j ≡ i)) ⊎ ((m ≢ n) × InstanceAt nodes m j)
instance_changed nodes n m i j at = elim (instance_set nodes n m (Some i) j at) [
  | inl here ↦ inl (here.0, sym (same_Some i j here.1))
  | inr there ↦ inr there
]

-- an instance has ended
pub instance_ended : (nodes : List (Option InstanceEntry)) (n m : ℕ) (j : InstanceEntry) → InstanceAt (slice_set nodes n None) m j → (m ≢ n) × InstanceAt nodes m j
instance_ended nodes n m j at = elim (instance_set nodes n m None j at) [
  | inl here ↦ absurd (none-some j here.1)
  | inr there ↦ there
]

-- one instance stands at a node
pub one_instance : (nodes : List (Option InstanceEntry)) (n : ℕ) (i j : InstanceEntry) → InstanceAt nodes n i → InstanceAt nodes n j → i ≡ j
one_instance nodes n i j one other = same_Some i j (same_Some (Some i) (Some j) (sym one ∙ other))

-- ---- clients
pub client_set : (clients : List Client) (s r : ℕ) (c d : Client) → ClientAt (slice_set clients s c) r d → ((r ≡ s) × (d ≡ c)) ⊎ ((r ≢ s) × ClientAt clients r d)
client_set clients s r c d at = set_cases clients s r c d at

pub one_client : (clients : List Client) (s : ℕ) (c d : Client) → ClientAt clients s c → ClientAt clients s d → c ≡ d
one_client clients s c d one other = same_Some c d (sym one ∙ other)

-- ---- requests
index_set : (xs : List (Option Held)) (s r : ℕ) (now : Option Held) (held : Held) → slice_index_or (slice_set xs s now) r None ≡ Some held → ((r ≡ s) × (now ≡ Some held)) ⊎ ((r ≢ s) × (slice_index_or xs r None ≡ Some held))
index_set [] s r now held found = absurd (cc)
index_set (y ∷ ys) zero zero now held found = inl (refl, found)
index_set (y ∷ ys) zero (suc r) now held found = inr (λ same. cc, found)
index_set (y ∷ ys) (suc s) zero now held found = inr (λ same. cc, found)
index_set (y ∷ ys) (suc s) (suc r) now held found = elim (index_set ys s r now held found) [
  | inl here ↦ inl (ap suc here.0, here.1)
  | inr there ↦ inr (λ same. there.0 (suc_same r s same), there.1)
]

-- a request that is held after one was set is that one, or was held before
pub held_set : (i : InstanceEntry) (s r : ℕ) (now : Option Held) (held : Held) → held_of (with_request i s now) r ≡ Some held → ((r ≡ s) × (now ≡ Some held)) ⊎ ((r ≢ s) × (held_of i r ≡ Some held))
held_set i s r now held found = index_set i.requests s r now held found

pub one_held : (i : InstanceEntry) (s : ℕ) (a b : Held) → held_of i s ≡ Some a → held_of i s ≡ Some b → a ≡ b
one_held i s a b one other = same_Some a b (sym one ∙ other)

-- a request as it is held
pub held_by : (i : InstanceEntry) (s : ℕ) (held : Held) → held_of i s ≡ Some held → HeldBy i s held.request held.progress
held_by i s held has = record { held = held; has = has; asks = refl; stands = refl }

-- what a request set to these is held as
pub record IsNow (now : Option Held) (request : Request) (p : Progress) : Type 0 where
  pub held : Held
  pub is : now ≡ Some held
  pub asks : held.request ≡ request
  pub stands : held.progress ≡ p

pub heldby_set : (i : InstanceEntry) (s r : ℕ) (now : Option Held) (request : Request) (p : Progress) → HeldBy (with_request i s now) r request p → ((r ≡ s) × IsNow now request p) ⊎ ((r ≢ s) × HeldBy i r request p)
heldby_set i s r now request p h = elim (held_set i s r now h.held h.has) [
  | inl here ↦ inl (here.0, record { held = h.held; is = here.1; asks = h.asks; stands = h.stands })
  | inr there ↦ inr (there.0, record { held = h.held; has = there.1; asks = h.asks; stands = h.stands })
]

-- a request that has ended is held no more
pub heldby_ended : (i : InstanceEntry) (s r : ℕ) (request : Request) (p : Progress) → HeldBy (with_request i s None) r request p → (r ≢ s) × HeldBy i r request p
heldby_ended i s r request p h = elim (heldby_set i s r None request p h) [
  | inl here ↦ absurd (none-some here.1.held here.1.is)
  | inr there ↦ there
]

-- a request that is held anew is held as it was put there
pub heldby_changed : (i : InstanceEntry) (s r : ℕ) (now : Held) (request : Request) (p : Progress) → HeldBy (with_request i s (Some now)) r request p → ((r ≡ s) × (now.request ≡ request) × (now.progress ≡ p)) ⊎ ((r ≢ s) × HeldBy i r request p)
heldby_changed i s r now request p h = elim (heldby_set i s r (Some now) request p h) [
  | inl here ↦ let same : now ≡ here.1.held = same_Some now here.1.held here.1.is in
      inl (here.0, ap (λ x. x.request) same ∙ here.1.asks, ap (λ x. x.progress) same ∙ here.1.stands)
  | inr there ↦ inr there
]

-- a request is that of the session that it is held under
pub commit_own : (request : Request) (s r t : ℕ) (keys : List ℕ) → request ≡ Commit r t keys → session_of request ≡ s → request ≡ Commit s t keys
commit_own request s r t keys is own = is ∙ ap (λ q. Commit q t keys) (ap session_of (sym is) ∙ own)

pub begin_own : (request : Request) (r s : ℕ) → request ≡ BeginRequest r → session_of request ≡ s → request ≡ BeginRequest s
begin_own request r s is own = is ∙ ap BeginRequest (ap session_of (sym is) ∙ own)
