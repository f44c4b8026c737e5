-- For run_board too.
-- No actor's place is past the lines of the script.
use Rattle.std.proofs.Common.{◌≡◌, ℕ, zero, suc, ◌+◌, ◌-◌, ◌≤◌, Bool, true, false, cond, List, [], ◌∷◌, ◌++◌, All, Option, Some, None, length, refl, arith}
use Rattle.std.specs.Prelude.{map, fold, filter}
use Rattle.std.proofs.lemmas.List.{length-drop}
use Rattle.std.proofs.lemmas.List.Elements.{All-nil, All-cons, All-head, All-tail, All-append, All-map, All-weaker}
use Rattle.stamp_base.specs.SetupNumbers.{SetupNumbers}
use Rattle.history_book.specs.declared.item.Actor.{Actor}
use Rattle.history_book.specs.declared.item.Actor.TheVariants.{Clock, Node, Session, Janitor}
use Rattle.machine.specs.declared.event.Event.{Event}
use Rattle.machine.specs.Machine.{Step}
use Rattle.script_data.specs.declared.line.Line.{Line}
use Rattle.script_data.specs.Data.{ScriptData}
use Rattle.command_semantics.specs.declared.point.View.{View}
use Rattle.command_semantics.specs.Answers.{same_actor}
use Rattle.command_semantics.specs.Next.{Clocks}
use Rattle.command_semantics.specs.Runs.{clocks_of, step_of}
use Rattle.command_semantics.specs.Views.{view_of}
use Rattle.turn_rules.specs.declared.seat.Seat.{Seat}
use Rattle.turn_rules.specs.declared.turn.Turn.{Turn}
use Rattle.turn_rules.specs.declared.turn.Turn.TheVariants as turn
use Rattle.turn_rules.specs.Seats.{first_seat, first_seats, seats_of, lines_of, lines_left, present_line, with_event_at, with_next_line, ahead_of, is_passed, passed}
use Rattle.turn_rules.specs.Carried.{Carried, seat_of, event_of, moved, with_event, seat_passed, all_passed, turned_by, turned, at_first, carried}
use Rattle.thread_scripts.specs.Places.{place_in}

-- ---- one seat
most_of_two : (b : Bool) (on here : Seat) (most : ℕ) → on.place ≤ most → here.place ≤ most → (cond b on here).place ≤ most
most_of_two true on here most further still = further
most_of_two false on here most further still = still

passed_most : (clocks : Clocks) (view : View) (rest : List Line) (seat : Seat) (most : ℕ) → seat.place + length rest ≤ most → (passed clocks view rest seat).place ≤ most
unfolding passed
passed_most clocks view [] seat most less = omega (arith, less)
passed_most clocks view (line ∷ rest) seat most less =
    most_of_two (is_passed (ahead_of clocks true view line seat)) (passed clocks view rest (with_next_line line seat)) seat most (passed_most clocks view rest (with_next_line line seat) most (omega (arith, less))) (omega (arith, less))

fewer_by : (b : Bool) (line : Line) (kept rest : List Line) → length kept ≤ length rest → length (cond b (line ∷ kept) kept) ≤ length (line ∷ rest)
fewer_by true line kept rest less = omega (arith, less)
fewer_by false line kept rest less = omega (arith, less)

own_are_fewer : (actor : Actor) (lines : List Line) → length (filter (λ (line : Line). same_actor line.actor actor) lines) ≤ length lines
own_are_fewer actor [] = omega arith
own_are_fewer actor (line ∷ lines) = fewer_by (same_actor line.actor actor) line (filter (λ (x : Line). same_actor x.actor actor) lines) lines (own_are_fewer actor lines)

-- so far the place is within the script
abbrev IsWithin : ScriptData → Seat → Type 0
IsWithin script seat = seat.place ≤ length script.lines

passes_within : (script : ScriptData) (c : Carried) (seat : Seat) → IsWithin script seat → IsWithin script (seat_passed script c seat)
passes_within script c seat less =
    let left : length (lines_left script seat) ≡ length (lines_of script seat.actor) - seat.place = length-drop seat.place (lines_of script seat.actor) in
    let fewer : length (lines_of script seat.actor) ≤ length script.lines = own_are_fewer seat.actor script.lines in
    passed_most (clocks_of script c.played) (view_of c.played.state seat.actor) (lines_left script seat) seat (length script.lines) (omega (arith, less, left, fewer))

event_place : (line : Option Line) (step : Step) (seat : Seat) → (with_event_at line step seat).place ≡ seat.place
event_place None step seat = refl
event_place (Some line) step seat = refl

moved_by : (b : Bool) (line : Option Line) (step : Step) (seat : Seat) → (cond b (with_event_at line step seat) seat).place ≡ seat.place
moved_by true line step seat = event_place line step seat
moved_by false line step seat = refl

moved_place : (script : ScriptData) (t : Turn) (step : Step) (seat : Seat) → (moved script t step seat).place ≡ seat.place
moved_place script (turn.Own actor aim) step seat = moved_by (same_actor seat.actor actor) (present_line script seat) step seat
moved_place script (turn.Accept node s) step seat = refl
moved_place script (turn.Decide node s) step seat = refl
moved_place script (turn.Put node s) step seat = refl
moved_place script (turn.Answer node s) step seat = refl
moved_place script (turn.Extend node) step seat = refl

moves_within : (script : ScriptData) (t : Turn) (step : Step) (seat : Seat) → IsWithin script seat → IsWithin script (moved script t step seat)
moves_within script t step seat less = omega (arith, less, moved_place script t step seat)

-- ---- all seats
abbrev AreWithin : ScriptData → Carried → Type 0
AreWithin script c = All (λ (seat : Seat). seat.place ≤ length script.lines) c.seats

each_on : (script : ScriptData) (f : Seat → Seat) (seats : List Seat) → ((seat : Seat) → IsWithin script seat → IsWithin script (f seat)) → All (λ (seat : Seat). seat.place ≤ length script.lines) seats → All (λ (seat : Seat). seat.place ≤ length script.lines) (map f seats)
each_on script f seats keeps within = All-map (λ (seat : Seat). seat.place ≤ length script.lines) f seats (All-weaker (λ (seat : Seat). seat.place ≤ length script.lines) (λ (seat : Seat). (f seat).place ≤ length script.lines) keeps seats within)

all_pass_within : (script : ScriptData) (c : Carried) → AreWithin script c → AreWithin script (all_passed script c)
all_pass_within script c within = each_on script (seat_passed script c) c.seats (passes_within script c) within

turn_within : (script : ScriptData) (c : Carried) (t : Turn) (e : Option Event) → AreWithin script c → AreWithin script (turned_by script c t e)
turn_within script c t None within = within
turn_within script c t (Some e) within = all_pass_within script (with_event script c t e) (each_on script (moved script t (step_of script c.played e)) c.seats (moves_within script t (step_of script c.played e)) within)

turns_within : (script : ScriptData) (turns : List Turn) (c : Carried) → AreWithin script c → AreWithin script (fold (turned script) c turns)
turns_within script [] c within = within
turns_within script (t ∷ turns) c within = turns_within script turns (turned script c t) (turn_within script c t (event_of script c t) within)

kind_within : (kind : ℕ → Actor) (count most : ℕ) → All (λ (seat : Seat). seat.place ≤ most) (seats_of kind count)
unfolding seats_of
kind_within kind zero most = All-nil (λ (seat : Seat). seat.place ≤ most)
kind_within kind (suc count) most = All-append (λ (seat : Seat). seat.place ≤ most) (seats_of kind count) (first_seat (kind count) ∷ []) (kind_within kind count most) (All-cons (λ (seat : Seat). seat.place ≤ most) (first_seat (kind count)) [] (omega arith) (All-nil (λ (seat : Seat). seat.place ≤ most)))

first_within : (setup : SetupNumbers) (most : ℕ) → All (λ (seat : Seat). seat.place ≤ most) (first_seats setup)
first_within setup most =
    All-cons (λ (seat : Seat). seat.place ≤ most) (first_seat Clock) (first_seat Janitor ∷ seats_of (λ n. Node n) setup.nodes ++ seats_of (λ s. Session s) 16) (omega arith)
    (All-cons (λ (seat : Seat). seat.place ≤ most) (first_seat Janitor) (seats_of (λ n. Node n) setup.nodes ++ seats_of (λ s. Session s) 16) (omega arith)
    (All-append (λ (seat : Seat). seat.place ≤ most) (seats_of (λ n. Node n) setup.nodes) (seats_of (λ s. Session s) 16) (kind_within (λ n. Node n) setup.nodes most) (kind_within (λ s. Session s) 16 most)))

-- ---- the seat of an actor
found_by : (b : Bool) (seat : Seat) (rest : Option Seat) (most : ℕ) → seat.place ≤ most → place_in rest ≤ most → place_in (cond b (Some seat) rest) ≤ most
found_by true seat rest most here later = here
found_by false seat rest most here later = later

found_within : (seats : List Seat) (actor : Actor) (most : ℕ) → All (λ (seat : Seat). seat.place ≤ most) seats → place_in (seat_of seats actor) ≤ most
found_within [] actor most within = omega arith
found_within (seat ∷ seats) actor most within = found_by (same_actor seat.actor actor) seat (seat_of seats actor) most (All-head (λ (x : Seat). x.place ≤ most) seat seats within) (found_within seats actor most (All-tail (λ (x : Seat). x.place ≤ most) seat seats within))

pub place_is_within : (script : ScriptData) (turns : List Turn) (actor : Actor) → place_in (seat_of (carried script turns).seats actor) ≤ length script.lines
place_is_within script turns actor = found_within (carried script turns).seats actor (length script.lines) (turns_within script turns (all_passed script (at_first script)) (all_pass_within script (at_first script) (first_within script.setup (length script.lines))))
