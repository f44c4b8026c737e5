-- For this crate's own proofs.
-- No actor has two seats, whichever turns are made.
use Rattle.run_board.proofs.Names.{◌≡◌, ℕ, zero, suc, ◌+◌, Bool, List, [], ◌∷◌, ◌++◌, Option, Some, None, inl, inr}
use Rattle.run_board.proofs.Names.{length, refl, sym, ◌∙◌, ap, subst, arith, map, slice_get, option_map, length-append}
use Rattle.run_board.proofs.Names.{same_Some, none-some, slice_get-map, Actor, Clock, Node, Session, Janitor}
use Rattle.run_board.proofs.Names.{slice_get-push, Event, Line, ScriptData, Interruption, step_of, Holds, Seat, Turn}
use Rattle.run_board.proofs.Names.{first_seat, seats_of, Carried, event_of, moved, with_event, seat_passed, all_passed}
use Rattle.run_board.proofs.Names.{turned_by, turned, at_first, carried, passed_actor, moved_actor, Seated, SitsAt}
use Rattle.run_board.proofs.Names.{after_turn, SitOnce, AreSeatedFirst}
use Rattle.std.proofs.Common.{fold}
use Rattle.run_board.proofs.OneActor.{same_seat}

-- ---- no two of a list are of one actor
abbrev AreOnce : {X : Type 0} → (X → Actor) → List X → Type 0
AreOnce {X} of xs = (i j : ℕ) (a b : X) → slice_get xs i ≡ Some a → slice_get xs j ≡ Some b → of a ≡ of b → i ≡ j

abbrev OneSeatEach : List Seat → Type 0
OneSeatEach seats = AreOnce (λ (seat : Seat). seat.actor) seats

mapped_from : {X Y : Type 0} (f : X → Y) (y : Y) (found : Option X) → option_map f found ≡ Some y → (x : X) × (found ≡ Some x) × (f x ≡ y)
mapped_from f y None is = absurd (none-some y is)
mapped_from f y (Some x) is = (x, refl, same_Some (f x) y is)

mapped_once : {X Y : Type 0} (f : X → Y) (of : X → Actor) (by : Y → Actor) → ((x : X) → by (f x) ≡ of x) → (xs : List X) → AreOnce of xs → AreOnce by (map f xs)
mapped_once f of by keeps xs once i j a b first second same =
    let one = mapped_from f a (slice_get xs i) (sym (slice_get-map f xs i) ∙ first) in
    let other = mapped_from f b (slice_get xs j) (sym (slice_get-map f xs j) ∙ second) in
    once i j one.0 other.0 one.1 other.1 (sym (keeps one.0) ∙ ap by one.2 ∙ same ∙ sym (ap by other.2) ∙ keeps other.0)

-- ---- the first seats lie in the order of their actors
abbrev LieFrom : ℕ → (Actor → ℕ) → List Seat → Type 0
LieFrom from index seats = (i : ℕ) (seat : Seat) → slice_get seats i ≡ Some seat → index seat.actor ≡ from + i

lie_both : (index : Actor → ℕ) (xs ys : List Seat) (from : ℕ) → LieFrom from index xs → LieFrom (from + length xs) index ys → LieFrom from index (xs ++ ys)
lie_both index [] ys from first second i seat is = let at : index seat.actor ≡ from + 0 + i = second i seat is in omega (arith, at)
lie_both index (x ∷ xs) ys from first second zero seat is = first zero seat is
lie_both index (x ∷ xs) ys from first second (suc i) seat is =
    let here : LieFrom (suc from) index xs = λ j s there. let at : index s.actor ≡ from + suc j = first (suc j) s there in omega (arith, at) in
    let next : LieFrom (suc from + length xs) index ys = λ j s there. let at : index s.actor ≡ from + suc (length xs) + j = second j s there in omega (arith, at) in
    let at : index seat.actor ≡ suc from + i = lie_both index xs ys (suc from) here next i seat is in
    omega (arith, at)

many_of : (kind : ℕ → Actor) (n : ℕ) → length (seats_of kind n) ≡ n
unfolding seats_of
many_of kind zero = refl
many_of kind (suc n) =
    let more : length (seats_of kind n ++ first_seat (kind n) ∷ []) ≡ length (seats_of kind n) + 1 = length-append (seats_of kind n) (first_seat (kind n) ∷ []) in
    let so_far : length (seats_of kind n) ≡ n = many_of kind n in
    omega (arith, more, so_far)

kind_lies : (index : Actor → ℕ) (kind : ℕ → Actor) (from n : ℕ) → ((m : ℕ) → index (kind m) ≡ from + m) → LieFrom from index (seats_of kind n)
unfolding seats_of
kind_lies index kind from zero at i seat is = absurd (none-some seat is)
kind_lies index kind from (suc n) at i seat is = elim (slice_get-push (seats_of kind n) (first_seat (kind n)) i seat is) [
  | inl before ↦ kind_lies index kind from n at i seat before
  | inr here ↦ ap (λ (s : Seat). index s.actor) here.0 ∙ at n ∙ ap (λ (m : ℕ). from + m) (sym (here.1 ∙ many_of kind n))
]

abbrev first_index : ℕ → Actor → ℕ
first_index nodes Clock = 0
first_index nodes Janitor = 1
first_index nodes (Node n) = 2 + n
first_index nodes (Session s) = 2 + nodes + s

first_two : (nodes : ℕ) → LieFrom 0 (first_index nodes) (first_seat Clock ∷ first_seat Janitor ∷ [])
first_two nodes zero seat is = ap (λ (s : Seat). first_index nodes s.actor) (sym (same_Some (first_seat Clock) seat is))
first_two nodes (suc zero) seat is = ap (λ (s : Seat). first_index nodes s.actor) (sym (same_Some (first_seat Janitor) seat is))
first_two nodes (suc (suc i)) seat is = absurd (none-some seat is)

abbrev first_of : ℕ → List Seat
first_of nodes = first_seat Clock ∷ first_seat Janitor ∷ seats_of (λ n. Node n) nodes ++ seats_of (λ s. Session s) 16

first_lie : (nodes : ℕ) → LieFrom 0 (first_index nodes) (first_of nodes)
first_lie nodes =
    let index : Actor → ℕ = first_index nodes in
    let all : List Seat = seats_of (λ n. Node n) nodes in
    let sessions : List Seat = seats_of (λ s. Session s) 16 in
    let last : LieFrom (2 + length all) index sessions = subst (λ (n : ℕ). LieFrom (2 + n) index sessions) (sym (many_of (λ n. Node n) nodes)) (kind_lies index (λ s. Session s) (2 + nodes) 16 (λ m. refl)) in
    lie_both index (first_seat Clock ∷ first_seat Janitor ∷ []) (all ++ sessions) 0 (first_two nodes) (lie_both index all sessions 2 (kind_lies index (λ n. Node n) 2 nodes (λ m. refl)) last)

first_once : (nodes : ℕ) → OneSeatEach (first_of nodes)
first_once nodes i j a b first second same =
    let here : first_index nodes a.actor ≡ 0 + i = first_lie nodes i a first in
    let there : first_index nodes b.actor ≡ 0 + j = first_lie nodes j b second in
    let both : first_index nodes a.actor ≡ first_index nodes b.actor = ap (λ (actor : Actor). first_index nodes actor) same in
    omega (arith, here, there, both)

-- ---- turns keep the actors of seats
passed_once : (script : ScriptData) (c : Carried) → OneSeatEach c.seats → OneSeatEach (all_passed script c).seats
passed_once script c once = mapped_once (seat_passed script c) (λ (seat : Seat). seat.actor) (λ (seat : Seat). seat.actor) (passed_actor script c) c.seats once

turned_once : (script : ScriptData) (c : Carried) (t : Turn) (found : Option Event) → OneSeatEach c.seats → OneSeatEach (turned_by script c t found).seats
turned_once script c t None once = once
turned_once script c t (Some e) once = passed_once script (with_event script c t e) (mapped_once (moved script t (step_of script c.played e)) (λ (seat : Seat). seat.actor) (λ (seat : Seat). seat.actor) (moved_actor script t (step_of script c.played e)) c.seats once)

all_once : (script : ScriptData) (turns : List Turn) (c : Carried) → OneSeatEach c.seats → OneSeatEach (fold (turned script) c turns).seats
all_once script [] c once = once
all_once script (t ∷ turns) c once = all_once script turns (turned script c t) (turned_once script c t (event_of script c t) once)

seats_once : (script : ScriptData) (turns : List Turn) → OneSeatEach (carried script turns).seats
seats_once script turns = all_once script turns (all_passed script (at_first script)) (passed_once script (at_first script) (first_once script.setup.nodes))

-- ---- so do those with their lines beside them
once_beside : (seats : List Seat) (seated : List Seated) → map (λ (s : Seated). s.seat) seated ≡ seats → OneSeatEach seats → SitOnce seated
once_beside seats seated are once i j a b first second same =
    let seat_of_one : Seated → Seat = λ s. s.seat in
    let each : OneSeatEach (map seat_of_one seated) = subst (λ (xs : List Seat). OneSeatEach xs) (sym are) once in
    each i j a.seat b.seat (slice_get-map seat_of_one seated i ∙ ap (λ (o : Option Seated). option_map seat_of_one o) first) (slice_get-map seat_of_one seated j ∙ ap (λ (o : Option Seated). option_map seat_of_one o) second) same

pub sit_once : (script : ScriptData) (turns : List Turn) (names : List (List ℕ)) (held : List Holds) (seated : List Seated) → SitsAt script (carried script turns) names held seated → SitOnce seated
sit_once script turns names held seated k = once_beside (carried script turns).seats seated k.seats (seats_once script turns)

pub first_sit_once : (nodes : ℕ) (lines : List Line) (seated : List Seated) → AreSeatedFirst nodes lines seated → SitOnce seated
first_sit_once nodes lines seated k = once_beside (first_of nodes) seated k.seats (first_once nodes)

pub moved_once : (t : Turn) (halt : Option Interruption) (asked : Bool) (seated : List Seated) → SitOnce seated → SitOnce (map (after_turn t halt asked) seated)
moved_once t halt asked seated once = mapped_once (after_turn t halt asked) (λ (s : Seated). s.seat.actor) (λ (s : Seated). s.seat.actor) (same_seat t halt asked) seated once
