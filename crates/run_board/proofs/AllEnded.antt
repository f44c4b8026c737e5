-- Where every actor has ended no seat has a line left, since each actor has one seat.
use Rattle.run_board.proofs.Names.{◌≡◌, ℕ, zero, suc, ◌<◌, ◌==◌, Bool, true, false, cond, List, [], ◌∷◌, ◌++◌}
use Rattle.run_board.proofs.Names.{append_assoc, Option, Some, None, length, drop, inl, inr, refl, sym, ◌∙◌, ap, subst}
use Rattle.run_board.proofs.Names.{arith, map, fold, slice_get, slice_index_or, option_map, true≢false, eqb_tells}
use Rattle.run_board.proofs.Names.{none-some, SetupNumbers, Actor, Clock, Node, Session, Janitor, Event, Line}
use Rattle.run_board.proofs.Names.{ScriptData, same_actor, step_of, actor_same, same_itself, Seat, Turn, first_seat}
use Rattle.run_board.proofs.Names.{seats_of, first_seats, lines_of, lines_left, Carried, seat_of, event_of, moved}
use Rattle.run_board.proofs.Names.{with_event, seat_passed, all_passed, turned_by, turned, at_first, carried, find_map}
use Rattle.run_board.proofs.Names.{passed_actor, moved_actor, Ran, reached_by, place_in, HasEnded, EndedRunsAreWhole}
use Rattle.std.proofs.lemmas.List.{append-nil}

-- ---- each actor has one seat
unfoldable AreDistinct : List Seat → Type 0
AreDistinct [] = Unit {0}
AreDistinct (seat ∷ seats) = (seat_of seats seat.actor ≡ None) × AreDistinct seats

-- ---- seats that change keep their actors
mapped_none : (f : Seat → Seat) → ((seat : Seat) → (f seat).actor ≡ seat.actor) → (seats : List Seat) (actor : Actor) → seat_of seats actor ≡ None → seat_of (map f seats) actor ≡ None
mapped_none f same seats actor none = find_map (λ (seat : Seat). same_actor seat.actor actor) f (λ seat. ap (λ (a : Actor). same_actor a actor) (same seat)) seats ∙ ap (λ (found : Option Seat). option_map f found) none

distinct_map : (f : Seat → Seat) → ((seat : Seat) → (f seat).actor ≡ seat.actor) → (seats : List Seat) → AreDistinct seats → AreDistinct (map f seats)
unfolding AreDistinct
distinct_map f same [] k = tt
distinct_map f same (seat ∷ seats) k =
    (ap (λ (a : Actor). seat_of (map f seats) a) (same seat) ∙ mapped_none f same seats seat.actor k.0, distinct_map f same seats k.1)

distinct_passed : (script : ScriptData) (c : Carried) → AreDistinct c.seats → AreDistinct (all_passed script c).seats
distinct_passed script c k = distinct_map (seat_passed script c) (λ seat. passed_actor script c seat) c.seats k

distinct_turn : (script : ScriptData) (c : Carried) (t : Turn) (e : Option Event) → AreDistinct c.seats → AreDistinct (turned_by script c t e).seats
distinct_turn script c t None k = k
distinct_turn script c t (Some e) k = distinct_passed script (with_event script c t e) (distinct_map (moved script t (step_of script c.played e)) (λ seat. moved_actor script t (step_of script c.played e) seat) c.seats k)

distinct_turns : (script : ScriptData) (turns : List Turn) (c : Carried) → AreDistinct c.seats → AreDistinct (fold (turned script) c turns).seats
distinct_turns script [] c k = k
distinct_turns script (t ∷ turns) c k = distinct_turns script turns (turned script c t) (distinct_turn script c t (event_of script c t) k)

-- ---- the first seats
none_both : (x : Seat) (rest : Option Seat) (here : Bool) → cond here (Some x) rest ≡ None → (here ≡ false) × (rest ≡ None)
none_both x rest true is = absurd (none-some x (sym is))
none_both x rest false is = (refl, is)

none_by : (x : Seat) (rest : Option Seat) (here : Bool) → here ≡ false → rest ≡ None → cond here (Some x) rest ≡ None
none_by x rest here not none = ap (λ (b : Bool). cond b (Some x) rest) not ∙ none

none_of_both : (actor : Actor) (xs ys : List Seat) → seat_of xs actor ≡ None → seat_of ys actor ≡ None → seat_of (xs ++ ys) actor ≡ None
none_of_both actor [] ys none others = others
none_of_both actor (x ∷ xs) ys none others =
    let k = none_both x (seat_of xs actor) (same_actor x.actor actor) none in
    none_by x (seat_of (xs ++ ys) actor) (same_actor x.actor actor) k.0 (none_of_both actor xs ys k.1 others)

pub other_way : (a b : Actor) (same : Bool) → same_actor a b ≡ same → same_actor b a ≡ false → same ≡ false
other_way a b false is not = refl
other_way a b true is not = absurd (true≢false (sym (ap (λ (x : Actor). same_actor x a) (sym (actor_same a b is)) ∙ same_itself a) ∙ not))

distinct_one_more : (xs : List Seat) (seat : Seat) → AreDistinct xs → seat_of xs seat.actor ≡ None → AreDistinct (xs ++ seat ∷ [])
unfolding AreDistinct
distinct_one_more [] seat k none = (refl, tt)
distinct_one_more (x ∷ xs) seat k none =
    let p = none_both x (seat_of xs seat.actor) (same_actor x.actor seat.actor) none in
    let here : seat_of (seat ∷ []) x.actor ≡ None = none_by seat None (same_actor seat.actor x.actor) (other_way seat.actor x.actor (same_actor seat.actor x.actor) refl p.0) refl in
    (none_of_both x.actor xs (seat ∷ []) k.0 here, distinct_one_more xs seat k.1 p.1)

none_of_kind : (kind : ℕ → Actor) (actor : Actor) (m : ℕ) → ((n : ℕ) → n < m → same_actor (kind n) actor ≡ false) → seat_of (seats_of kind m) actor ≡ None
unfolding seats_of
none_of_kind kind actor zero other = refl
none_of_kind kind actor (suc m) other = none_of_both actor (seats_of kind m) (first_seat (kind m) ∷ []) (none_of_kind kind actor m (λ n less. other n (omega (arith, less)))) (none_by (first_seat (kind m)) None (same_actor (kind m) actor) (other m (omega arith)) refl)

distinct_kind : (kind : ℕ → Actor) (xs : List Seat) → ((n m : ℕ) → n < m → same_actor (kind n) (kind m) ≡ false) → ((n : ℕ) → seat_of xs (kind n) ≡ None) → AreDistinct xs → (m : ℕ) → AreDistinct (xs ++ seats_of kind m)
unfolding seats_of
distinct_kind kind xs differ others k zero = subst (λ (ys : List Seat). AreDistinct ys) (sym (append-nil xs)) k
distinct_kind kind xs differ others k (suc m) =
    subst (λ (ys : List Seat). AreDistinct ys) (append_assoc xs (seats_of kind m) (first_seat (kind m) ∷ []))
    (distinct_one_more (xs ++ seats_of kind m) (first_seat (kind m)) (distinct_kind kind xs differ others k m) (none_of_both (kind m) xs (seats_of kind m) (others m) (none_of_kind kind (kind m) m (λ n less. differ n m less))))

differ : (n m : ℕ) → n < m → (n == m) ≡ false
differ n m less = elim (eqb_tells n m) [
  | inl same ↦ absurd (omega (arith, less, same.1))
  | inr other ↦ other.0
]

two_first : AreDistinct (first_seat Clock ∷ first_seat Janitor ∷ [])
unfolding AreDistinct
two_first = (refl, (refl, tt))

distinct_first : (setup : SetupNumbers) → AreDistinct (first_seats setup)
distinct_first setup =
    let two : List Seat = first_seat Clock ∷ first_seat Janitor ∷ [] in
    let nodes : AreDistinct (two ++ seats_of (λ n. Node n) setup.nodes) = distinct_kind (λ n. Node n) two differ (λ n. refl) two_first setup.nodes in
    distinct_kind (λ s. Session s) (two ++ seats_of (λ n. Node n) setup.nodes) differ (λ s. none_of_both (Session s) two (seats_of (λ n. Node n) setup.nodes) refl (none_of_kind (λ n. Node n) (Session s) setup.nodes (λ n less. refl))) nodes 16

distinct_carried : (script : ScriptData) (turns : List Turn) → AreDistinct (carried script turns).seats
distinct_carried script turns = distinct_turns script turns (all_passed script (at_first script)) (distinct_passed script (at_first script) (distinct_first script.setup))

-- ---- a seat is found by its actor
found_later : (x seat : Seat) (xs : List Seat) → seat_of xs x.actor ≡ None → seat_of xs seat.actor ≡ Some seat → (here : Bool) → same_actor x.actor seat.actor ≡ here → cond here (Some x) (seat_of xs seat.actor) ≡ Some seat
found_later x seat xs alone found false is = found
found_later x seat xs alone found true is = absurd (none-some seat (sym alone ∙ ap (λ (a : Actor). seat_of xs a) (actor_same x.actor seat.actor is) ∙ found))

find_self : (seats : List Seat) → AreDistinct seats → (k : ℕ) (d : Seat) → k < length seats → seat_of seats (slice_index_or seats k d).actor ≡ Some (slice_index_or seats k d)
unfolding AreDistinct
find_self [] alone k d within = absurd (omega (arith, within))
find_self (x ∷ xs) alone zero d within = ap (λ (b : Bool). cond b (Some x) (seat_of xs x.actor)) (same_itself x.actor)
find_self (x ∷ xs) alone (suc k) d within = found_later x (slice_index_or xs k d) xs alone.0 (find_self xs alone.1 k d (omega (arith, within))) (same_actor x.actor (slice_index_or xs k d).actor) refl

-- ---- no line is left
none_left : (lines : List Line) (n : ℕ) → slice_get lines n ≡ None → drop n lines ≡ []
none_left [] zero none = refl
none_left [] (suc n) none = refl
none_left (x ∷ xs) zero none = absurd (none-some x (sym none))
none_left (x ∷ xs) (suc n) none = none_left xs n none

left_at : (r : Ran) (seat : Seat) → seat_of (reached_by r).seats seat.actor ≡ Some seat → HasEnded r seat.actor → lines_left r.script seat ≡ []
left_at r seat found ended = none_left (lines_of r.script seat.actor) seat.place (ap (λ (o : Option Seat). slice_get (lines_of r.script seat.actor) (place_in o)) (sym found) ∙ ended)

pub ended_runs_are_whole : EndedRunsAreWhole
ended_runs_are_whole r ended k d within =
    let seat : Seat = slice_index_or (reached_by r).seats k d in
    left_at r seat (find_self (reached_by r).seats (distinct_carried r.script r.turns) k d within) (ended seat.actor)
