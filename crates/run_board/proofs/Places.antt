-- For this crate's own proofs.
-- No turn lowers a place.
use Rattle.run_board.proofs.Names.{◌≡◌, ℕ, ◌≤◌, Bool, true, false, cond, List, [], ◌∷◌, ◌++◌, Option, Some, None, refl}
use Rattle.run_board.proofs.Names.{sym, subst, arith, option_map, fold_push, Actor, Event, Step, Line, ScriptData, View}
use Rattle.run_board.proofs.Names.{same_actor, Clocks, clocks_of, step_of, view_of, Seat, Turn, lines_left}
use Rattle.run_board.proofs.Names.{present_line, with_event_at, with_next_line, ahead_of, is_passed, passed, Carried}
use Rattle.run_board.proofs.Names.{seat_of, event_of, moved, with_event, all_passed, turned_by, turned, at_first}
use Rattle.run_board.proofs.Names.{carried, seat_after, turned_seat, place_in}
use Rattle.turn_rules.specs.declared.turn.Turn.TheVariants as turn

least_of_two : (b : Bool) (on here : Seat) (least : ℕ) → least ≤ on.place → least ≤ here.place → least ≤ (cond b on here).place
least_of_two true on here least further still = further
least_of_two false on here least further still = still

passed_least : (clocks : Clocks) (view : View) (rest : List Line) (seat : Seat) (least : ℕ) → least ≤ seat.place → least ≤ (passed clocks view rest seat).place
unfolding passed
passed_least clocks view [] seat least less = less
passed_least clocks view (line ∷ rest) seat least less =
    least_of_two (is_passed (ahead_of clocks true view line seat)) (passed clocks view rest (with_next_line line seat)) seat least (passed_least clocks view rest (with_next_line line seat) least (omega (arith, less))) less

event_place : (line : Option Line) (step : Step) (seat : Seat) → (with_event_at line step seat).place ≡ seat.place
event_place None step seat = refl
event_place (Some line) step seat = refl

moved_by : (b : Bool) (line : Option Line) (step : Step) (seat : Seat) → (cond b (with_event_at line step seat) seat).place ≡ seat.place
moved_by true line step seat = event_place line step seat
moved_by false line step seat = refl

moved_place : (script : ScriptData) (t : Turn) (step : Step) (seat : Seat) → (moved script t step seat).place ≡ seat.place
moved_place script (turn.Own actor aim) step seat = moved_by (same_actor seat.actor actor) (present_line script seat) step seat
moved_place script (turn.Accept node s) step seat = refl
moved_place script (turn.Decide node s) step seat = refl
moved_place script (turn.Put node s) step seat = refl
moved_place script (turn.Answer node s) step seat = refl
moved_place script (turn.Extend node) step seat = refl

after_least : (script : ScriptData) (c : Carried) (t : Turn) (e : Event) (seat : Seat) → seat.place ≤ (seat_after script c t e seat).place
after_least script c t e seat =
    let after : Carried = with_event script c t e in
    let here : Seat = moved script t (step_of script c.played e) seat in
    let same : here.place ≡ seat.place = moved_place script t (step_of script c.played e) seat in
    let more : here.place ≤ (seat_after script c t e seat).place = passed_least (clocks_of script after.played) (view_of after.played.state here.actor) (lines_left script here) here here.place (omega arith) in
    omega (arith, same, more)

found_least : (script : ScriptData) (c : Carried) (t : Turn) (e : Event) (found : Option Seat) → place_in found ≤ place_in (option_map (seat_after script c t e) found)
found_least script c t e None = omega arith
found_least script c t e (Some seat) = after_least script c t e seat

turned_least : (script : ScriptData) (c : Carried) (t : Turn) (actor : Actor) (found : Option Event) → place_in (seat_of c.seats actor) ≤ place_in (seat_of (turned_by script c t found).seats actor)
turned_least script c t actor None = omega arith
turned_least script c t actor (Some e) = subst (λ (o : Option Seat). place_in (seat_of c.seats actor) ≤ place_in o) (sym (turned_seat script c t e actor)) (found_least script c t e (seat_of c.seats actor))

pub places_rise : (script : ScriptData) (turns : List Turn) (t : Turn) (actor : Actor) → place_in (seat_of (carried script turns).seats actor) ≤ place_in (seat_of (carried script (turns ++ t ∷ [])).seats actor)
places_rise script turns t actor = subst (λ (c : Carried). place_in (seat_of (carried script turns).seats actor) ≤ place_in (seat_of c.seats actor)) (sym (fold_push (turned script) (all_passed script (at_first script)) turns t)) (turned_least script (carried script turns) t actor (event_of script (carried script turns) t))
