-- What serves a request finds the room and the place that it needs.
use Rattle.cluster_core.proofs.Names.{◌≡◌, ◌≤◌, ℕ, zero, suc, Bool, true, false, List, Option, Some, None, refl, arith}
use Rattle.cluster_core.proofs.Names.{slice_get, replicate, is_some, sum_by, sum_by-cons, Item, Places, SetupNumbers}
use Rattle.cluster_core.proofs.Names.{Held, Progress, Asked, Accepted, Drawn, Settled, Handed, Request, Begin, Commit}
use Rattle.cluster_core.proofs.Names.{InstanceEntry, held_of, opening, to_place, Event, decides_at, is_to_decide}
use Rattle.cluster_core.proofs.Names.{is_to_put, answers_at, is_to_answer, HasRoomIf, HasPlaceFor, InstanceAt}
use Rattle.cluster_core.proofs.Names.{ClusterModel, spent, need_by, need, needs_of, AreRoomy, ArePlacesKept, held_found}
use Rattle.cluster_core.proofs.Names.{held_in, HasRoomFor}
use Rattle.machine.specs.declared.event.Event.TheVariants as event
use Rattle.cluster_core.proofs.Needs.{once_at_most, besides_at_most, one_within, held_within}
use Rattle.cluster_core.proofs.RequestMoves.{placing, placing_need}
use Rattle.cluster_core.proofs.RoomKept.{IsKept, starts_in}

-- ---- what a request needs at least
four_spent : (h : List Item) (held : Held) (request : Request) (p : Progress) → spent h held request p ≤ 4
four_spent h held (Begin s) Asked = omega (arith, once_at_most held.told_no_stamp)
four_spent h held (Begin s) Accepted = omega (arith, once_at_most held.told_no_stamp)
four_spent h held (Begin s) (Drawn start) = omega (arith, once_at_most held.told_no_stamp, once_at_most held.told_not_yet)
four_spent h held (Begin s) (Settled c by) = omega (arith, once_at_most held.told_no_stamp)
four_spent h held (Begin s) (Handed c) = omega (arith, once_at_most held.told_no_stamp)
four_spent h held (Commit s t keys) Asked = omega (arith, once_at_most held.told_no_stamp)
four_spent h held (Commit s t keys) Accepted = omega (arith, once_at_most held.told_no_stamp)
four_spent h held (Commit s t keys) (Drawn c) = omega (arith, once_at_most held.told_no_stamp)
four_spent h held (Commit s t keys) (Settled c by) = omega (arith, once_at_most held.told_no_stamp, besides_at_most h t c by)
four_spent h held (Commit s t keys) (Handed c) = omega (arith, once_at_most held.told_no_stamp)

decides_need : (h : List Item) (held : Held) (p : Progress) → decides_at p ≡ true → 1 ≤ need_by h held p
decides_need h held Accepted is = omega (arith, four_spent h held held.request Accepted)
decides_need h held Asked is = absurd (cc)
decides_need h held (Drawn stamp) is = absurd (cc)
decides_need h held (Settled c by) is = absurd (cc)
decides_need h held (Handed c) is = absurd (cc)

decide_need : (h : List Item) (found : Option Held) → is_to_decide found ≡ true → 1 ≤ need h found
decide_need h None is = absurd (cc)
decide_need h (Some held) is = decides_need h held held.progress is

answers_need : (h : List Item) (held : Held) (request : Request) (p : Progress) → answers_at request p ≡ true → 1 ≤ need_by h held p
answers_need h held (Begin s) (Drawn start) is = omega (arith, four_spent h held held.request (Drawn start))
answers_need h held (Commit s t keys) (Settled c by) is = omega (arith, four_spent h held held.request (Settled c by))
answers_need h held (Commit s t keys) (Handed c) is = omega (arith, four_spent h held held.request (Handed c))
answers_need h held (Begin s) (Handed c) is = absurd (cc)
answers_need h held (Begin s) Asked is = absurd (cc)
answers_need h held (Begin s) Accepted is = absurd (cc)
answers_need h held (Begin s) (Settled c by) is = absurd (cc)
answers_need h held (Commit s t keys) Asked is = absurd (cc)
answers_need h held (Commit s t keys) Accepted is = absurd (cc)
answers_need h held (Commit s t keys) (Drawn c) is = absurd (cc)

answer_need : (h : List Item) (found : Option Held) → is_to_answer found ≡ true → 1 ≤ need h found
answer_need h None is = absurd (cc)
answer_need h (Some held) is = answers_need h held held.request held.progress is

put_need_by : (h : List Item) (held : Held) (stamps : Option (ℕ × ℕ)) → to_place (Some held) ≡ stamps → is_some stamps ≡ true → 2 ≤ need h (Some held)
put_need_by h held None at is = absurd (cc)
put_need_by h held (Some stamps) at is = omega (arith, placing_need h held stamps.0 stamps.1 (placing held stamps.0 stamps.1 at), once_at_most held.told_no_stamp)

put_need : (h : List Item) (found : Option Held) → is_to_put found ≡ true → 2 ≤ need h found
put_need h None is = absurd (cc)
put_need h (Some held) is = put_need_by h held (to_place (Some held)) refl is

-- ---- which is within the sum of all
found_within : (h : List Item) (nodes : List (Option InstanceEntry)) (n s : ℕ) (posts : Option (Option InstanceEntry)) → slice_get nodes n ≡ posts → need h (held_found posts s) ≤ sum_by (needs_of h) nodes
found_within h nodes n s None at = omega arith
found_within h nodes n s (Some None) at = omega arith
found_within h nodes n s (Some (Some i)) at = omega (arith, one_within (needs_of h) nodes n (Some i) at, held_within (need h) refl i.requests s (held_of i s) refl)

room_if : (served : Bool) (k spare needs : ℕ) → (served ≡ true → k ≤ needs) → needs ≤ spare → HasRoomIf served k spare
room_if true k spare needs some within = omega (arith, some refl, within)
room_if false k spare needs some within = tt

room_in : (nodes : List (Option InstanceEntry)) (h : List Item) (spare n s k : ℕ) (served : Bool) → AreRoomy nodes h spare → (served ≡ true → k ≤ need h (held_found (slice_get nodes n) s)) → HasRoomIf served k spare
room_in nodes h spare n s k served roomy some = room_if served k spare (need h (held_found (slice_get nodes n) s)) some (omega (arith, roomy, found_within h nodes n s (slice_get nodes n) refl))

-- ---- and a commit that is to be placed has its place
place_in : (nodes : List (Option InstanceEntry)) (places : Places) (n s : ℕ) (stamps : Option (ℕ × ℕ)) → ArePlacesKept nodes places → to_place (held_found (slice_get nodes n) s) ≡ stamps → HasPlaceFor stamps places
place_in nodes places n s None kept is = tt
place_in nodes places n s (Some stamps) kept is = let own = starts_in nodes n s (slice_get nodes n) stamps refl is in kept n s stamps.0 own.i own.at own.starts

pub room_is_there : (w : ClusterModel) (e : Event) → IsKept w.state.nodes w.history w.spare w.places → HasRoomFor w e
room_is_there w (event.Decide n s) k = room_in w.state.nodes w.history w.spare n s 1 (is_to_decide (held_in w.state n s)) k.roomy (decide_need w.history (held_in w.state n s))
room_is_there w (event.Put n s) k = (room_in w.state.nodes w.history w.spare n s 2 (is_to_put (held_in w.state n s)) k.roomy (put_need w.history (held_in w.state n s)), place_in w.state.nodes w.places n s (to_place (held_in w.state n s)) k.kept refl)
room_is_there w (event.Answer n s) k = room_in w.state.nodes w.history w.spare n s 1 (is_to_answer (held_in w.state n s)) k.roomy (answer_need w.history (held_in w.state n s))
room_is_there w e k = tt

-- ---- at the opening no node holds a request
none_needed : (h : List Item) (n : ℕ) → sum_by (needs_of h) (replicate n None) ≡ 0
none_needed h zero = refl
none_needed h (suc n) = omega (arith, sum_by-cons (needs_of h) None (replicate n None), none_needed h n)

no_instance : (n m : ℕ) (i : InstanceEntry) → InstanceAt (replicate n None) m i → ⊥
no_instance zero m i at = cc
no_instance (suc n) zero i at = cc
no_instance (suc n) (suc m) i at = no_instance n m i at

pub kept_first : (setup : SetupNumbers) (h : List Item) (spare : ℕ) (places : Places) → IsKept (opening setup).nodes h spare places
kept_first setup h spare places = record {
  roomy = omega (arith, none_needed h setup.nodes);
  kept = λ n s t i at is. absurd (no_instance setup.nodes n i at);
}
