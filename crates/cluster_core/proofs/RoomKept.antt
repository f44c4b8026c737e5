-- What is kept for requests that were accepted stays kept, and is there when it is needed.
use Rattle.cluster_core.proofs.Names.{◌≡◌, ◌≢◌, ◌≤◌, ◌+◌, ℕ, Bool, true, false, List, ◌++◌, length, Option, Some, None}
use Rattle.cluster_core.proofs.Names.{Result, Ok, Err, inl, inr, refl, sym, ap, subst, ◌∙◌, arith, slice_get, slice_set}
use Rattle.cluster_core.proofs.Names.{IsTrue, is_some, OnOk, length-append, same_Some, none-some, Fate, Item, Places}
use Rattle.cluster_core.proofs.Names.{Held, Progress, Asked, Accepted, Drawn, Settled, Handed, Request, Begin, Commit}
use Rattle.cluster_core.proofs.Names.{InstanceEntry, held_of, State, Stop, Refuses, Faults, to_place, to_place_by}
use Rattle.cluster_core.proofs.Names.{put_commit, put_on, Event, step_by, with_post, at_post, stepped, ended, Stopped}
use Rattle.cluster_core.proofs.Names.{Refused, StoreFault, NoMemory, is_to_decide, is_to_put, is_to_answer, SpendsIf}
use Rattle.cluster_core.proofs.Names.{places_after, NeverLacksIf, ReservesFive, HeldHasPlace, KeepPlaces}
use Rattle.cluster_core.proofs.Names.{IsolationInvariant, instance_set, ClusterModel, start_by, start_to_place}
use Rattle.cluster_core.proofs.Names.{AreRoomy, ArePlacesKept, held_found, held_in, direct_in, is_served, ReservesFor}
use Rattle.cluster_core.proofs.Names.{KeepsRoom, Spends, Reserves, LeavesRoom}
use Rattle.std.specs.FinSet as set
use Rattle.machine.specs.declared.event.Event.TheVariants as event
use Rattle.node_events.proofs.Places.{used_keeps}
use Rattle.cluster_core.proofs.Needs.{all_longer}
use Rattle.cluster_core.proofs.RequestMoves.{start_of, spends, gains, put_starts}
use Rattle.cluster_core.proofs.OneStart.{one_start}
use Rattle.cluster_core.proofs.NodeMoves.{NodesBecame, StartsAt, is_plain, plain_became, accept_became, decide_became, answer_became, put_became}

pub five_or_none : (result : Result Unit Stopped) (before now : ℕ) → ReservesFive result before now → (before ≤ now) × (now ≤ before + 5)
five_or_none (Ok _) before now five = (omega (arith, five), omega (arith, five))
five_or_none (Err (Refused why)) before now same = (omega (arith, same), omega (arith, same))
five_or_none (Err (StoreFault store)) before now same = (omega (arith, same), omega (arith, same))
five_or_none (Err NoMemory) before now same = (omega (arith, same), omega (arith, same))

-- an accept reserves five items, or none where nothing is held
pub reserves_for : (held : Option Held) (result : Result Unit Stopped) (before now : ℕ) → ReservesFive result before now → ReservesFor held result before now
reserves_for None result before now five = five_or_none result before now five
reserves_for (Some held) result before now five = five

-- ---- the room in the history
-- what an event gained of it
gained : (held : Option Held) (stop : Option Stop) (result : Result Unit Stopped) (before now : ℕ) → result ≡ ended stop → ReservesFor held result before now → before + gains held stop ≤ now
gained None stop result before now is more = omega (arith, more.0)
gained (Some held) None result before now is five = omega (arith, subst (λ (r : Result Unit Stopped). ReservesFive r before now) is five)
gained (Some held) (Some (Refuses why)) result before now is five = omega (arith, subst (λ (r : Result Unit Stopped). ReservesFive r before now) is five)
gained (Some held) (Some (Faults store)) result before now is five = omega (arith, subst (λ (r : Result Unit Stopped). ReservesFive r before now) is five)

-- and what it spent
spent_so : (served : Bool) (before now : ℕ) (history later items : List Item) → later ≡ history ++ items → SpendsIf served before history now later → before ≤ now + spends served items
spent_so true before now history later items is all = omega (arith, ap length is, length-append history items, all)
spent_so false before now history later items is same = omega (arith, same)

roomy_after : (h items : List Item) (given : Places) (a b before now : ℕ) (old new : List (Option InstanceEntry)) → NodesBecame (h ++ items) given a b old new → AreRoomy old h before → before + b ≤ now + a → AreRoomy new (h ++ items) now
roomy_after h items given a b before now old new k roomy moved = omega (arith, k.sum, all_longer h items old, roomy, moved)

-- ---- places
kept_after : (h : List Item) (given : Places) (a b : ℕ) (old new : List (Option InstanceEntry)) (places : Places) → NodesBecame h given a b old new → ArePlacesKept old places → KeepPlaces places given → ArePlacesKept new given
kept_after h given a b old new places k kept keep = λ n s t i at starts. elim (k.starts n s t (record { i = i; at = at; starts = starts })) [
  | inl before ↦ keep t (kept n s t before.i before.at before.starts)
  | inr has ↦ has
]

same_places : (places now : Places) → now ≡ places → KeepPlaces places now
same_places places now is = λ t has. subst (λ (p : Places). IsTrue (set.contains p t)) (sym is) has

-- a put uses up the place of its own commit alone
put_old_at : (w : State) (n s : ℕ) (fate : Fate) (i : InstanceEntry) (found : Option Held) (stamps : ℕ × ℕ) → slice_get w.nodes n ≡ Some (Some i) → held_of i s ≡ found → to_place found ≡ Some stamps → (m r t : ℕ) → StartsAt (slice_set w.nodes n (put_commit n s fate i w.pairs (Some stamps)).parts.0) m r t → StartsAt w.nodes m r t × ((m ≡ n) → (r ≡ s) → ⊥)
put_old_at w n s fate i None stamps at has is m r t k = absurd (none-some stamps is)
put_old_at w n s fate i (Some held) stamps at has is m r t k = elim (instance_set w.nodes n m _ k.i k.at) [
  | inl here ↦
      let there = put_starts n s fate i w.pairs held stamps r t has is (ap (λ (p : Option InstanceEntry). start_of p r) here.1 ∙ k.starts) in
      (record { i = i; at = ap (slice_get w.nodes) here.0 ∙ at; starts = there.1 }, λ same own. there.0 own)
  | inr other ↦ (record { i = k.i; at = other.1; starts = k.starts }, λ same own. other.0 same)
]

put_old : (w : State) (n s : ℕ) (fate : Fate) (posts : Option (Option InstanceEntry)) (stamps : ℕ × ℕ) → slice_get w.nodes n ≡ posts → to_place (held_found posts s) ≡ Some stamps → (m r t : ℕ) → StartsAt (at_post w posts (λ post. step_by (put_on n s fate post w.pairs) (λ p. record (with_post w n p.0) { pairs = p.1 }))).state.nodes m r t → StartsAt w.nodes m r t × ((m ≡ n) → (r ≡ s) → ⊥)
put_old w n s fate None stamps at is m r t k = absurd (none-some stamps is)
put_old w n s fate (Some None) stamps at is m r t k = absurd (none-some stamps is)
put_old w n s fate (Some (Some i)) stamps at is m r t k =
    put_old_at w n s fate i (held_of i s) stamps at refl is m r t (subst (λ (found : Option (ℕ × ℕ)). StartsAt (slice_set w.nodes n (put_commit n s fate i w.pairs found).parts.0) m r t) is k)

-- the commit that is to be placed has such a start
start_by_place : (direct : Bool) (request : Request) (p : Progress) (stamps : ℕ × ℕ) → to_place_by request p ≡ Some stamps → start_by direct request p ≡ Some stamps.0
start_by_place direct (Begin s) p stamps is = absurd (none-some stamps is)
start_by_place direct (Commit s t keys) Asked stamps is = absurd (none-some stamps is)
start_by_place direct (Commit s t keys) Accepted stamps is = absurd (none-some stamps is)
start_by_place direct (Commit s t keys) (Drawn c) stamps is = ap (λ (q : ℕ × ℕ). Some q.0) (same_Some (t, c) stamps is)
start_by_place direct (Commit s t keys) (Settled c by) stamps is = absurd (none-some stamps is)
start_by_place direct (Commit s t keys) (Handed c) stamps is = absurd (none-some stamps is)

start_of_place : (direct : Bool) (found : Option Held) (stamps : ℕ × ℕ) → to_place found ≡ Some stamps → start_to_place direct found ≡ Some stamps.0
start_of_place direct None stamps is = absurd (none-some stamps is)
start_of_place direct (Some held) stamps is = start_by_place direct held.request held.progress stamps is

pub starts_in : (nodes : List (Option InstanceEntry)) (n s : ℕ) (posts : Option (Option InstanceEntry)) (stamps : ℕ × ℕ) → slice_get nodes n ≡ posts → to_place (held_found posts s) ≡ Some stamps → StartsAt nodes n s stamps.0
starts_in nodes n s None stamps at is = absurd (none-some stamps is)
starts_in nodes n s (Some None) stamps at is = absurd (none-some stamps is)
starts_in nodes n s (Some (Some i)) stamps at is = record { i = i; at = at; starts = start_of_place i.direct (held_of i s) stamps is }

put_places : (w : State) (h : List Item) (n s : ℕ) (fate : Fate) (places : Places) (stamps : ℕ × ℕ) → IsolationInvariant w h → ArePlacesKept w.nodes places → to_place (held_in w n s) ≡ Some stamps → ArePlacesKept (stepped w (event.Put n s) fate).state.nodes (set.remove places stamps.0)
put_places w h n s fate places stamps holds kept is = λ m r t j at starts.
    let own = starts_in w.nodes n s (slice_get w.nodes n) stamps refl is in
    let old = put_old w n s fate (slice_get w.nodes n) stamps refl is m r t (record { i = j; at = at; starts = starts }) in
    let other : t ≢ stamps.0 = λ same. let one = one_start w h m r n s stamps.0 holds (subst (λ u. StartsAt w.nodes m r u) same old.0) own in old.1 one.0 one.1 in
    used_keeps places stamps.0 t other (kept m r t old.0.i old.0.at old.0.starts)

put_kept : (w : State) (h : List Item) (n s : ℕ) (fate : Fate) (places now : Places) (stamps : Option (ℕ × ℕ)) → IsolationInvariant w h → ArePlacesKept w.nodes places → to_place (held_in w n s) ≡ stamps → now ≡ places_after stamps places → ArePlacesKept (stepped w (event.Put n s) fate).state.nodes now
put_kept w h n s fate places now None holds kept is same = kept_after _ now _ 0 w.nodes _ places (put_became h now w n s fate) kept (same_places places now same)
put_kept w h n s fate places now (Some stamps) holds kept is used = subst (ArePlacesKept (stepped w (event.Put n s) fate).state.nodes) (sym used) (put_places w h n s fate places stamps holds kept is)

-- ---- what is kept after an event that was made
-- for a state with its history there is room, and the commits in flight have their places
pub record IsKept (nodes : List (Option InstanceEntry)) (h : List Item) (spare : ℕ) (places : Places) : Type 0 where
  pub roomy : AreRoomy nodes h spare
  pub kept : ArePlacesKept nodes places

plain_kept : (old now : ClusterModel) (e : Event) (fate : Fate) → is_plain e ≡ true → IsKept old.state.nodes old.history old.spare old.places → KeepsRoom old now → IsKept (stepped old.state e fate).state.nodes (old.history ++ (stepped old.state e fate).items) now.spare now.places
plain_kept old now e fate plain k room =
    let became = plain_became (old.history ++ (stepped old.state e fate).items) now.places old.state e fate plain in
    record {
      roomy = roomy_after old.history _ now.places 0 0 old.spare now.spare _ _ became k.roomy (omega (arith, room.spare));
      kept = kept_after _ now.places 0 0 _ _ old.places became k.kept (same_places old.places now.places room.places);
    }

accept_kept : (old now : ClusterModel) (n s reading : ℕ) (fate : Fate) (result : Result Unit Stopped) → IsKept old.state.nodes old.history old.spare old.places → result ≡ ended (stepped old.state (event.Accept n s reading) fate).stop → Reserves (direct_in old.state n) (held_in old.state n s) old now result → IsKept (stepped old.state (event.Accept n s reading) fate).state.nodes (old.history ++ (stepped old.state (event.Accept n s reading) fate).items) now.spare now.places
accept_kept old now n s reading fate result k is room =
    let place = λ (none : (stepped old.state (event.Accept n s reading) fate).stop ≡ None). subst (λ (r : Result Unit Stopped). OnOk r (HeldHasPlace (direct_in old.state n) now.places (held_in old.state n s))) (is ∙ ap ended none) room.place in
    let became = accept_became (old.history ++ (stepped old.state (event.Accept n s reading) fate).items) now.places old.state n s reading fate place in
    record {
      roomy = roomy_after old.history _ now.places 0 _ old.spare now.spare _ _ became k.roomy (omega (arith, gained (held_in old.state n s) (stepped old.state (event.Accept n s reading) fate).stop result old.spare now.spare is room.spare));
      kept = kept_after _ now.places 0 _ _ _ old.places became k.kept room.places;
    }

decide_kept : (old now : ClusterModel) (n s : ℕ) (fate : Fate) → IsKept old.state.nodes old.history old.spare old.places → now.history ≡ old.history ++ (stepped old.state (event.Decide n s) fate).items → Spends (is_to_decide (held_in old.state n s)) None old now → IsKept (stepped old.state (event.Decide n s) fate).state.nodes (old.history ++ (stepped old.state (event.Decide n s) fate).items) now.spare now.places
decide_kept old now n s fate k told room =
    let became = decide_became (old.history ++ (stepped old.state (event.Decide n s) fate).items) now.places old.state n s fate in
    record {
      roomy = roomy_after old.history _ now.places _ 0 old.spare now.spare _ _ became k.roomy (omega (arith, spent_so (is_to_decide (held_in old.state n s)) old.spare now.spare old.history now.history _ told room.spare));
      kept = kept_after _ now.places _ 0 _ _ old.places became k.kept (same_places old.places now.places room.places);
    }

answer_kept : (old now : ClusterModel) (n s : ℕ) (fate : Fate) → IsKept old.state.nodes old.history old.spare old.places → now.history ≡ old.history ++ (stepped old.state (event.Answer n s) fate).items → Spends (is_to_answer (held_in old.state n s)) None old now → IsKept (stepped old.state (event.Answer n s) fate).state.nodes (old.history ++ (stepped old.state (event.Answer n s) fate).items) now.spare now.places
answer_kept old now n s fate k told room =
    let became = answer_became (old.history ++ (stepped old.state (event.Answer n s) fate).items) now.places old.state n s fate in
    record {
      roomy = roomy_after old.history _ now.places _ 0 old.spare now.spare _ _ became k.roomy (omega (arith, spent_so (is_to_answer (held_in old.state n s)) old.spare now.spare old.history now.history _ told room.spare));
      kept = kept_after _ now.places _ 0 _ _ old.places became k.kept (same_places old.places now.places room.places);
    }

put_all_kept : (old now : ClusterModel) (n s : ℕ) (fate : Fate) → IsolationInvariant old.state old.history → IsKept old.state.nodes old.history old.spare old.places → now.history ≡ old.history ++ (stepped old.state (event.Put n s) fate).items → Spends (is_to_put (held_in old.state n s)) (to_place (held_in old.state n s)) old now → IsKept (stepped old.state (event.Put n s) fate).state.nodes (old.history ++ (stepped old.state (event.Put n s) fate).items) now.spare now.places
put_all_kept old now n s fate holds k told room =
    let became = put_became old.history now.places old.state n s fate in
    record {
      roomy = roomy_after old.history _ now.places _ 0 old.spare now.spare _ _ became k.roomy (omega (arith, spent_so (is_to_put (held_in old.state n s)) old.spare now.spare old.history now.history _ told room.spare));
      kept = put_kept old.state old.history n s fate old.places now.places (to_place (held_in old.state n s)) holds k.kept refl room.places;
    }

pub made_kept : (old now : ClusterModel) (e : Event) (fate : Fate) (result : Result Unit Stopped) → IsolationInvariant old.state old.history → IsKept old.state.nodes old.history old.spare old.places → now.history ≡ old.history ++ (stepped old.state e fate).items → result ≡ ended (stepped old.state e fate).stop → LeavesRoom e old now result → IsKept (stepped old.state e fate).state.nodes (old.history ++ (stepped old.state e fate).items) now.spare now.places
made_kept old now (event.Accept n s reading) fate result holds k told is room = accept_kept old now n s reading fate result k is room
made_kept old now (event.Decide n s) fate result holds k told is room = decide_kept old now n s fate k told room
made_kept old now (event.Put n s) fate result holds k told is room = put_all_kept old now n s fate holds k told room
made_kept old now (event.Answer n s) fate result holds k told is room = answer_kept old now n s fate k told room
made_kept old now e fate result holds k told is room = plain_kept old now e fate refl k room

-- ---- where memory was refused, what was reserved before stays so
more_room : (nodes : List (Option InstanceEntry)) (h : List Item) (before now : ℕ) (places given : Places) → IsKept nodes h before places → before ≤ now → KeepPlaces places given → IsKept nodes h now given
more_room nodes h before now places given k more keep = record { roomy = omega (arith, k.roomy, more); kept = λ n s t i at is. keep t (k.kept n s t i at is) }

same_room : (old now : ClusterModel) → IsKept old.state.nodes old.history old.spare old.places → KeepsRoom old now → IsKept old.state.nodes old.history now.spare now.places
same_room old now k room = more_room old.state.nodes old.history old.spare now.spare old.places now.places k (omega (arith, room.spare)) (same_places old.places now.places room.places)

spent_none : (served : Bool) (old now : ClusterModel) → now.history ≡ old.history → SpendsIf served old.spare old.history now.spare now.history → now.spare ≡ old.spare
spent_none true old now same all = omega (arith, ap length same, all)
spent_none false old now same all = all

reserved_none : (held : Option Held) (before now : ℕ) → ReservesFor held (Err NoMemory) before now → before ≤ now
reserved_none None before now more = more.0
reserved_none (Some held) before now same = omega (arith, same)

unserved_places : (stamps : Option (ℕ × ℕ)) (places now : Places) → NeverLacksIf (is_some stamps) (Err NoMemory) → now ≡ places_after stamps places → now ≡ places
unserved_places None places now never is = is
unserved_places (Some stamps) places now never is = absurd never

pub lacked_kept : (old now : ClusterModel) (e : Event) → IsKept old.state.nodes old.history old.spare old.places → now.history ≡ old.history → NeverLacksIf (is_served old.state e) (Err NoMemory) → LeavesRoom e old now (Err NoMemory) → IsKept old.state.nodes old.history now.spare now.places
lacked_kept old now (event.Accept n s reading) k same never room = more_room old.state.nodes old.history old.spare now.spare old.places now.places k (reserved_none (held_in old.state n s) old.spare now.spare room.spare) room.places
lacked_kept old now (event.Decide n s) k same never room = same_room old now k (record { spare = spent_none (is_to_decide (held_in old.state n s)) old now same room.spare; places = room.places })
lacked_kept old now (event.Put n s) k same never room = same_room old now k (record { spare = spent_none (is_to_put (held_in old.state n s)) old now same room.spare; places = unserved_places (to_place (held_in old.state n s)) old.places now.places never room.places })
lacked_kept old now (event.Answer n s) k same never room = same_room old now k (record { spare = spent_none (is_to_answer (held_in old.state n s)) old now same room.spare; places = room.places })
lacked_kept old now e k same never room = same_room old now k room
