-- For this crate's own proofs.
-- Names, held stages and seats after one turn more.
use Rattle.run_board.proofs.Names.{◌≡◌, ℕ, ◌+◌, ◌-◌, ◌≤◌, Bool, true, false, cond, List, [], ◌∷◌, ◌++◌, Option, Some}
use Rattle.run_board.proofs.Names.{None, All, drop, length, refl, sym, ap, ◌∙◌, subst, arith, map, slice_get, All-head}
use Rattle.run_board.proofs.Names.{All-tail, All-map, All-weaker, fold_push, Item, Event, Step, State, Line, ScriptData}
use Rattle.run_board.proofs.Names.{Interruption, View, same_actor, halt_of, Clocks, clocks_of, view_of, clocks_at}
use Rattle.run_board.proofs.Names.{clocks_there, Holds, Seat, Turn, lines_of, present_line, was_asked, gone_on}
use Rattle.run_board.proofs.Names.{with_event_at, with_next_line, ahead_of, is_passed, passed, names_after, Carried}
use Rattle.run_board.proofs.Names.{event_of, held_after, moved, with_event, seat_passed, all_passed, turned_by, turned}
use Rattle.run_board.proofs.Names.{at_first, carried, passed_actor, Seated, line_of, gone_on_at, after_turn}
use Rattle.run_board.proofs.Names.{after_passing, step_in, Ran, reached_by, with_turn, IsSeated, SitsAt}
use Rattle.std.proofs.lemmas.List.{length-drop}
use Rattle.turn_rules.specs.declared.turn.Turn.TheVariants as turn
use Rattle.run_board.proofs.Kept.{Kept, Call, HasGone, since, moved_by, kept_after}

pub carried_on : (script : ScriptData) (turns : List Turn) (t : Turn) (e : Event) → event_of script (carried script turns) t ≡ Some e → carried script (turns ++ t ∷ []) ≡ all_passed script (with_event script (carried script turns) t e)
carried_on script turns t e is = fold_push (turned script) (all_passed script (at_first script)) turns t ∙ ap (λ (o : Option Event). turned_by script (carried script turns) t o) is

-- ---- an own turn's event
seat_of_two : (b : Bool) (s : Seated) (seat : Seat) → (cond b (record s { seat = seat }) s).seat ≡ cond b seat s.seat
seat_of_two true s seat = refl
seat_of_two false s seat = refl

goes_on : (line : Option Line) (step : Step) (halt : Option Interruption) (asked : Bool) (seat : Seat) → halt ≡ halt_of step.stop → asked ≡ was_asked step.items → gone_on_at line halt asked seat ≡ with_event_at line step seat
goes_on None step halt asked seat stopped was = refl
goes_on (Some line) step halt asked seat stopped was = λ i. gone_on line.verb (stopped i) (was i) seat

turned_seat : (script : ScriptData) (t : Turn) (step : Step) (halt : Option Interruption) (asked : Bool) (s : Seated) → IsSeated script s → halt ≡ halt_of step.stop → asked ≡ was_asked step.items → (after_turn t halt asked s).seat ≡ moved script t step s.seat
turned_seat script (turn.Own actor aim) step halt asked s k stopped was =
    let line : line_of s ≡ present_line script s.seat = ap (λ (ls : List Line). slice_get ls s.seat.place) k.lines in
    seat_of_two (same_actor s.seat.actor actor) s (gone_on_at (line_of s) halt asked s.seat)
    ∙ ap (λ (seat : Seat). cond (same_actor s.seat.actor actor) seat s.seat) (ap (λ (o : Option Line). gone_on_at o halt asked s.seat) line ∙ goes_on (present_line script s.seat) step halt asked s.seat stopped was)
turned_seat script (turn.Accept node session) step halt asked s k stopped was = refl
turned_seat script (turn.Decide node session) step halt asked s k stopped was = refl
turned_seat script (turn.Put node session) step halt asked s k stopped was = refl
turned_seat script (turn.Answer node session) step halt asked s k stopped was = refl
turned_seat script (turn.Extend node) step halt asked s k stopped was = refl

still_seated : (script : ScriptData) (line : Option Line) (halt : Option Interruption) (asked : Bool) (s : Seated) → IsSeated script s → IsSeated script (record s { seat = gone_on_at line halt asked s.seat })
still_seated script None halt asked s k = k
still_seated script (Some line) halt asked s k = record { lines = k.lines; place = k.place }

seated_by : (script : ScriptData) (b : Bool) (line : Option Line) (halt : Option Interruption) (asked : Bool) (s : Seated) → IsSeated script s → IsSeated script (cond b (record s { seat = gone_on_at line halt asked s.seat }) s)
seated_by script true line halt asked s k = still_seated script line halt asked s k
seated_by script false line halt asked s k = k

pub turned_seated : (script : ScriptData) (t : Turn) (halt : Option Interruption) (asked : Bool) (s : Seated) → IsSeated script s → IsSeated script (after_turn t halt asked s)
turned_seated script (turn.Own actor aim) halt asked s k = seated_by script (same_actor s.seat.actor actor) (line_of s) halt asked s k
turned_seated script (turn.Accept node session) halt asked s k = k
turned_seated script (turn.Decide node session) halt asked s k = k
turned_seated script (turn.Put node session) halt asked s k = k
turned_seated script (turn.Answer node session) halt asked s k = k
turned_seated script (turn.Extend node) halt asked s k = k

-- ---- passing lines
place_of_two : (b : Bool) (on here : Seat) (most : ℕ) → on.place ≤ most → here.place ≤ most → (cond b on here).place ≤ most
place_of_two true on here most further still = further
place_of_two false on here most further still = still

passed_place : (clocks : Clocks) (view : View) (rest : List Line) (seat : Seat) (most : ℕ) → seat.place + length rest ≤ most → (passed clocks view rest seat).place ≤ most
unfolding passed
passed_place clocks view [] seat most less = omega (arith, less)
passed_place clocks view (line ∷ rest) seat most less =
    place_of_two (is_passed (ahead_of clocks true view line seat)) (passed clocks view rest (with_next_line line seat)) seat most (passed_place clocks view rest (with_next_line line seat) most (omega (arith, less))) (omega (arith, less))

passing_seat : (script : ScriptData) (c : Carried) (clocks : Clocks) (w : State) (s : Seated) → IsSeated script s → clocks ≡ clocks_of script c.played → w ≡ c.played.state → (after_passing clocks w s).seat ≡ seat_passed script c s.seat
passing_seat script c clocks w s k time state = λ i. passed (time i) (view_of (state i) s.seat.actor) (drop s.seat.place (k.lines i)) s.seat

passing_seated : (script : ScriptData) (c : Carried) (clocks : Clocks) (w : State) (s : Seated) → IsSeated script s → clocks ≡ clocks_of script c.played → w ≡ c.played.state → IsSeated script (after_passing clocks w s)
passing_seated script c clocks w s k time state =
    let same : (after_passing clocks w s).seat.actor ≡ s.seat.actor = ap (λ (seat : Seat). seat.actor) (passing_seat script c clocks w s k time state) ∙ passed_actor script c s.seat in
    let left : length (drop s.seat.place s.lines.items) ≡ length s.lines.items - s.seat.place = length-drop s.seat.place s.lines.items in
    record {
      lines = k.lines ∙ ap (λ actor. lines_of script actor) (sym same);
      place = passed_place clocks (view_of w s.seat.actor) (drop s.seat.place s.lines.items) s.seat (length s.lines.items) (omega (arith, left, k.place));
    }

-- ---- all seats
mapped : (script : ScriptData) (f : Seated → Seated) (g : Seat → Seat) → ((s : Seated) → IsSeated script s → (f s).seat ≡ g s.seat) → (all : List Seated) → All (IsSeated script) all → map (λ (s : Seated). s.seat) (map f all) ≡ map g (map (λ (s : Seated). s.seat) all)
mapped script f g same [] k = refl
mapped script f g same (s ∷ all) k = λ i. same s (All-head (IsSeated script) s all k) i ∷ mapped script f g same all (All-tail (IsSeated script) s all k) i

each_kept : (script : ScriptData) (f : Seated → Seated) → ((s : Seated) → IsSeated script s → IsSeated script (f s)) → (all : List Seated) → All (IsSeated script) all → All (IsSeated script) (map f all)
each_kept script f keeps all k = All-map (IsSeated script) f all (All-weaker (IsSeated script) (λ s. IsSeated script (f s)) keeps all k)

pub passed_all : (script : ScriptData) (c : Carried) (clocks : Clocks) (w : State) (names : List (List ℕ)) (held : List Holds) (seated : List Seated) → SitsAt script c names held seated → clocks ≡ clocks_of script c.played → w ≡ c.played.state → SitsAt script (all_passed script c) names held (map (after_passing clocks w) seated)
passed_all script c clocks w names held seated k time state = record {
  posted = k.posted;
  held_is = k.held_is;
  seats = mapped script (after_passing clocks w) (seat_passed script c) (λ s sits. passing_seat script c clocks w s sits time state) seated k.each ∙ ap (λ seats. map (seat_passed script c) seats) k.seats;
  each = each_kept script (after_passing clocks w) (λ s sits. passing_seated script c clocks w s sits time state) seated k.each;
}

pub event_seated : (r : Ran) (kept : Kept) (call : Call) → SitsAt r.script (reached_by r) kept.names kept.held kept.seated → HasGone r call → SitsAt r.script (with_event r.script (reached_by r) call.turn call.event) (names_after kept.names call.event) (held_after kept.held call.event) (moved_by kept call)
event_seated r kept call k gone =
    let asked : Bool = was_asked (since call) in
    let was : asked ≡ was_asked (step_in r call.event).items = ap (λ (items : List Item). was_asked items) gone.appended in
    record {
      posted = ap (λ ns. names_after ns call.event) k.posted;
      held_is = ap (λ hs. held_after hs call.event) k.held_is;
      seats = mapped r.script (after_turn call.turn call.stop asked) (moved r.script call.turn (step_in r call.event)) (λ s sits. turned_seat r.script call.turn (step_in r call.event) call.stop asked s sits gone.stopped was) kept.seated k.each ∙ ap (λ seats. map (moved r.script call.turn (step_in r call.event)) seats) k.seats;
      each = each_kept r.script (after_turn call.turn call.stop asked) (λ s sits. turned_seated r.script call.turn call.stop asked s sits) kept.seated k.each;
    }

-- the parts after a turn more
pub sits_on : (r : Ran) (kept : Kept) (call : Call) → SitsAt r.script (reached_by r) kept.names kept.held kept.seated → event_of r.script (reached_by r) call.turn ≡ Some call.event → HasGone r call → SitsAt r.script (reached_by (with_turn r call.turn)) (names_after kept.names call.event) (held_after kept.held call.event) (kept_after r.script.leads kept call).seated
sits_on r kept call k is gone =
    let c : Carried = with_event r.script (reached_by r) call.turn call.event in
    let clocks : Clocks = clocks_at call.now call.after r.script.leads in
    let time : clocks ≡ clocks_of r.script c.played = clocks_there r.script c.played call.now call.after call.later gone.stands in
    subst (λ (d : Carried). SitsAt r.script d (names_after kept.names call.event) (held_after kept.held call.event) (kept_after r.script.leads kept call).seated) (sym (carried_on r.script r.turns call.turn call.event is)) (passed_all r.script c clocks call.now.state (names_after kept.names call.event) (held_after kept.held call.event) (moved_by kept call) (event_seated r kept call k gone) time gone.stands.state)
