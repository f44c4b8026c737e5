-- For turn_rules and grant_laws too.
-- The request of a session: where it is found, and where it stands after the node that holds it has changed.
use Rattle.command_semantics.proofs.Names.{◌≡◌, ℕ, suc, ◌+◌, ◌<◌, List, [], ◌∷◌, Option, Some, None, inl, inr}
use Rattle.command_semantics.proofs.Names.{refl, sym, subst, arith, slice_get, slice_set, same_Some, none-some}
use Rattle.command_semantics.proofs.Names.{Item, Held, Place, InstanceEntry, held_of, place_of_progress, Client, State}
use Rattle.command_semantics.proofs.Names.{held_at, first_holder, holder_from, holder_of, place_held, place_of}
use Rattle.command_semantics.proofs.Names.{is_commit, asks_commit, InstanceAt, ReachedInvariant, set_found}
use Rattle.command_semantics.proofs.Names.{instance_changed, held_by, of_client, client_settles, client_ends}
use Rattle.command_semantics.proofs.Names.{lacks_stamps, place_left, drive_left_by, drive_left}

-- the node has an instance that holds this request of the session
pub record Holder (nodes : List (Option InstanceEntry)) (node s : ℕ) (held : Held) : Type 0 where
  pub i : InstanceEntry
  pub at : InstanceAt nodes node i
  pub has : held_of i s ≡ Some held

-- ---- where a request is found
-- the same, of nodes that are counted from k on
record HolderFrom (k : ℕ) (nodes : List (Option InstanceEntry)) (s : ℕ) (found : ℕ × Held) : Type 0 where
  pub place : ℕ
  pub node_is : found.0 ≡ k + place
  pub holder : Holder nodes place s found.1

first_found : (k s : ℕ) (post : Option InstanceEntry) (posts : List (Option InstanceEntry)) (held : Held) → held_at post s ≡ Some held → HolderFrom k (post ∷ posts) s (k, held)
first_found k s post posts held has = grind (arith, none-some)

later_found : (k s : ℕ) (post : Option InstanceEntry) (posts : List (Option InstanceEntry)) (found : ℕ × Held) → HolderFrom (k + 1) posts s found → HolderFrom k (post ∷ posts) s found
later_found k s post posts found f = record { place = suc f.place; node_is = omega (arith, f.node_is); holder = record { i = f.holder.i; at = f.holder.at; has = f.holder.has } }

found_first : (k s : ℕ) (post : Option InstanceEntry) (posts : List (Option InstanceEntry)) (found : ℕ × Held) (here : Option Held) → held_at post s ≡ here → ((holder_from (k + 1) posts s ≡ Some found) → HolderFrom (k + 1) posts s found) → first_holder k here (holder_from (k + 1) posts s) ≡ Some found → HolderFrom k (post ∷ posts) s found
found_first k s post posts found here h later is = grind (arith, later_found, same_Some, first_found)

found_from : (k s : ℕ) (nodes : List (Option InstanceEntry)) (found : ℕ × Held) → holder_from k nodes s ≡ Some found → HolderFrom k nodes s found
unfolding holder_from
found_from k s [] found is = absurd (none-some found is)
found_from k s (post ∷ posts) found is = found_first k s post posts found (held_at post s) refl (found_from (k + 1) s posts found) is

pub holder_found : (w : State) (s : ℕ) (found : ℕ × Held) → holder_of w s ≡ Some found → Holder w.nodes found.0 s found.1
holder_found w s found is =
    let from : HolderFrom 0 w.nodes s found = found_from 0 s w.nodes found is in
    subst (λ (node : ℕ). Holder w.nodes node s found.1) (omega (arith, from.node_is)) from.holder

-- a request that stands somewhere is held there
pub record Served (w : State) (s : ℕ) (request : ℕ × Place) : Type 0 where
  pub held : Held
  pub holder : Holder w.nodes request.0 s held
  pub place_is : place_of_progress held.progress ≡ request.1
  pub commit_is : asks_commit w s ≡ is_commit held.request

pub is_served_at : (w : State) (s : ℕ) (request : ℕ × Place) → place_of w s ≡ Some request → Served w s request
is_served_at w s request at = grind (arith, none-some, same_Some, holder_found)

-- ---- after the holder has changed
-- the node holds the session's request alone, and has this instance now
pub record Changed (w left : State) (h : List Item) (node s : ℕ) (now : InstanceEntry) : Type 0 where
  pub stands : ReachedInvariant w h
  pub held : Held
  pub holder : Holder w.nodes node s held
  pub nodes : left.nodes ≡ slice_set w.nodes node (Some now)

-- so a request that is held is held there
pub holder_now : (w left : State) (h : List Item) (node s : ℕ) (now : InstanceEntry) (found : ℕ × Held) → Changed w left h node s now → holder_of left s ≡ Some found → (found.0 ≡ node) × (held_of now s ≡ Some found.1)
holder_now w left h node s now found k is =
    let there : Holder left.nodes found.0 s found.1 = holder_found left s found is in
    let at : InstanceAt (slice_set w.nodes node (Some now)) found.0 there.i = subst (λ (nodes : List (Option InstanceEntry)). InstanceAt nodes found.0 there.i) k.nodes there.at in
    elim (instance_changed w.nodes node found.0 now there.i at) [
      | inl here ↦ (here.0, subst (λ (i : InstanceEntry). held_of i s ≡ Some found.1) here.1 there.has)
      | inr other ↦ absurd (other.0 (sym (k.stands.holds.requests.requests.one node found.0 s k.holder.i there.i k.held.request found.1.request k.held.progress found.1.progress k.holder.at other.1 (held_by k.holder.i s k.held k.holder.has) (held_by there.i s found.1 there.has))))
    ]

-- what is left to drive is less than a bound, where it is for the request that the instance holds now, and for what follows it
drives_by : (w left : State) (h : List Item) (node s : ℕ) (now : InstanceEntry) (bound : ℕ) → Changed w left h node s now → ((held : Held) → held_of now s ≡ Some held → place_left (lacks_stamps now) (place_of_progress held.progress) + of_client (slice_get left.clients s) client_ends < bound) → of_client (slice_get left.clients s) client_settles < bound → (found : Option (ℕ × Held)) → holder_of left s ≡ found → drive_left_by left (slice_get left.clients s) (place_held found) < bound
drives_by w left h node s now bound k held_less less None is = less
drives_by w left h node s now bound k held_less less (Some found) is =
    let here : (found.0 ≡ node) × (held_of now s ≡ Some found.1) = holder_now w left h node s now found k is in
    grind (arith, set_found)

pub drives_on : (w left : State) (h : List Item) (node s : ℕ) (now : InstanceEntry) (bound : ℕ) → Changed w left h node s now → ((held : Held) → held_of now s ≡ Some held → place_left (lacks_stamps now) (place_of_progress held.progress) + of_client (slice_get left.clients s) client_ends < bound) → of_client (slice_get left.clients s) client_settles < bound → drive_left left s < bound
drives_on w left h node s now bound k held_less less = drives_by w left h node s now bound k held_less less (holder_of left s) refl

-- what is left of a request that stands somewhere
pub driven : (w : State) (s : ℕ) (request : ℕ × Place) (c : Client) (i : InstanceEntry) → place_of w s ≡ Some request → slice_get w.clients s ≡ Some c → InstanceAt w.nodes request.0 i → drive_left w s ≡ place_left (lacks_stamps i) request.1 + client_ends c
driven w s request c i at client_at node_at = grind arith
