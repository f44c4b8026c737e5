-- Where nothing is ahead of an actor it has no line left, since each line with nothing left to do was passed.
use Rattle.run_board.proofs.Names.{◌≡◌, ℕ, zero, suc, ◌≤◌, arith, length, leb, Bool, true, false, cond, List, [], ◌∷◌}
use Rattle.run_board.proofs.Names.{Option, Some, None, refl, sym, ◌∙◌, ap, subst, ◌↔◌, IsTrue, filter, fold, slice_get}
use Rattle.run_board.proofs.Names.{option_map, le-leb, leb-true, true≢false, same_Some, none-some, slice_get_past}
use Rattle.run_board.proofs.Names.{SetupNumbers, Actor, Session, Event, Line, Verb, ScriptData, Point, Opens, Drives}
use Rattle.run_board.proofs.Names.{Extends, View, same_actor, ActorFits, AreLinesOf, Clocks, clocks_of, view_of}
use Rattle.run_board.proofs.Names.{actor_same, Passes, Holds, Seat, Turn, own_opens, own_next, lines_of, lines_left}
use Rattle.run_board.proofs.Names.{present_line, with_next_line, ahead_of, is_passed, passed, Carried, aimed_clocks}
use Rattle.run_board.proofs.Names.{name_posted, seat_of, event_of, ahead_at, ahead_in, own_ahead, seat_passed}
use Rattle.run_board.proofs.Names.{all_passed, turned_by, turned, with_event, at_first, carried, find_true, drop_get}
use Rattle.run_board.proofs.Names.{drop_next, passed_actor, passed_seat, Seated, SitsAt, seated_of, place_in}
use Rattle.std.specs.Prelude.{drop}
use Rattle.script_data.specs.declared.line.Verb.TheVariants as verb
use Rattle.command_semantics.specs.Runs.{Played}
use Rattle.turn_rules.proofs.AimsAlike.{Alike, ahead_alike, passed_alike}
use Rattle.turn_rules.proofs.AllSeats.{has_seat}
use Rattle.run_board.proofs.Found.{IsFound, is_found}

-- ---- a seat that has passed what it can
-- its present line has something left to do
abbrev pub IsThrough : ScriptData → Clocks → View → Seat → Type 0
IsThrough script clocks view seat = (line : Line) → present_line script seat ≡ Some line → is_passed (ahead_of clocks true view line seat) ≡ false

through_here : (script : ScriptData) (clocks : Clocks) (view : View) (first : Line) (rest : List Line) (seat : Seat) → lines_left script seat ≡ first ∷ rest → is_passed (ahead_of clocks true view first seat) ≡ false → IsThrough script clocks view seat
through_here script clocks view first rest seat left stays line present =
    let same : first ≡ line = same_Some first line (sym (drop_get seat.place (lines_of script seat.actor) first rest left) ∙ present) in
    subst (λ (x : Line). is_passed (ahead_of clocks true view x seat) ≡ false) same stays

through_by : (script : ScriptData) (clocks : Clocks) (view : View) (first : Line) (rest : List Line) (seat on : Seat) → lines_left script seat ≡ first ∷ rest → IsThrough script clocks view on → (passes : Bool) → is_passed (ahead_of clocks true view first seat) ≡ passes → IsThrough script clocks view (cond passes on seat)
through_by script clocks view first rest seat on left later true passes = later
through_by script clocks view first rest seat on left later false stays = through_here script clocks view first rest seat left stays

none_at : (lines : List Line) (n : ℕ) (line : Line) → drop n lines ≡ [] → slice_get lines n ≡ Some line → ⊥
none_at [] n line left is = none-some line is
none_at (x ∷ xs) zero line left is = cc
none_at (x ∷ xs) (suc n) line left is = none_at xs n line left is

through : (script : ScriptData) (clocks : Clocks) (view : View) (rest : List Line) (seat : Seat) → lines_left script seat ≡ rest → IsThrough script clocks view (passed clocks view rest seat)
unfolding passed
through script clocks view [] seat left = λ line present. absurd (none_at (lines_of script seat.actor) seat.place line left present)
through script clocks view (first ∷ rest) seat left =
    through_by script clocks view first rest seat (passed clocks view rest (with_next_line first seat)) left (through script clocks view rest (with_next_line first seat) (drop_next seat.place (lines_of script seat.actor) first rest left)) (is_passed (ahead_of clocks true view first seat)) refl

-- ---- so is each seat after the turns
abbrev IsThroughIn : ScriptData → Played → Option Seat → Type 0
IsThroughIn script p None = Unit {0}
IsThroughIn script p (Some seat) = IsThrough script (clocks_of script p) (view_of p.state seat.actor) seat

through_passed : (script : ScriptData) (c : Carried) (found : Option Seat) → IsThroughIn script c.played (option_map (seat_passed script c) found)
through_passed script c None = tt
through_passed script c (Some seat) =
    let after : Seat = seat_passed script c seat in
    subst (λ (a : Actor). IsThrough script (clocks_of script c.played) (view_of c.played.state a) after) (sym (passed_actor script c seat)) (through script (clocks_of script c.played) (view_of c.played.state seat.actor) (lines_left script seat) seat refl)

through_all : (script : ScriptData) (c : Carried) (actor : Actor) → IsThroughIn script c.played (seat_of (all_passed script c).seats actor)
through_all script c actor = subst (λ (found : Option Seat). IsThroughIn script c.played found) (sym (passed_seat script c actor)) (through_passed script c (seat_of c.seats actor))

abbrev AreThrough : ScriptData → Actor → Carried → Type 0
AreThrough script actor c = IsThroughIn script c.played (seat_of c.seats actor)

through_turn : (script : ScriptData) (c : Carried) (t : Turn) (actor : Actor) (e : Option Event) → AreThrough script actor c → AreThrough script actor (turned_by script c t e)
through_turn script c t actor None is = is
through_turn script c t actor (Some e) is = through_all script (with_event script c t e) actor

through_turns : (script : ScriptData) (actor : Actor) (turns : List Turn) (c : Carried) → AreThrough script actor c → AreThrough script actor (fold (turned script) c turns)
through_turns script actor [] c is = is
through_turns script actor (t ∷ turns) c is = through_turns script actor turns (turned script c t) (through_turn script c t actor (event_of script c t) is)

through_carried : (script : ScriptData) (turns : List Turn) (actor : Actor) → AreThrough script actor (carried script turns)
through_carried script turns actor = through_turns script actor turns (all_passed script (at_first script)) (through_all script (at_first script) actor)

-- ---- a line with nothing ahead is passed, whether or not its name is posted
posted_opens : (clocks : Clocks) (actor : Actor) (v : Verb) (view : View) (unawaited : Bool) → own_opens clocks false actor v view unawaited ≡ Passes → own_opens clocks true actor v view unawaited ≡ Passes
posted_opens clocks actor (verb.Await name) view unawaited is = absurd (cc)
posted_opens clocks (Session s) verb.Collect view unawaited is = is
posted_opens clocks actor _ view unawaited is = is

posted_next : (clocks : Clocks) (posted : Bool) (actor : Actor) (v : Verb) (point : Point) (view : View) (unawaited : Bool) → own_next clocks posted actor v point view unawaited ≡ Passes → own_next clocks true actor v point view unawaited ≡ Passes
posted_next clocks true actor v point view unawaited is = is
posted_next clocks false actor v Opens view unawaited is = posted_opens clocks actor v view unawaited is
posted_next clocks false (Session s) v Drives view unawaited is = is
posted_next clocks false (Session s) v Extends view unawaited is = is
posted_next clocks false actor v _ view unawaited is = is

-- ---- an actor without a seat has no line
none_by : (actor : Actor) (line : Line) (rest : List Line) → (line.actor ≡ actor → ⊥) → rest ≡ [] → (same : Bool) → same_actor line.actor actor ≡ same → cond same (line ∷ rest) rest ≡ []
none_by actor line rest other none true is = absurd (other (actor_same line.actor actor is))
none_by actor line rest other none false is = none

no_own_lines : (setup : SetupNumbers) (actor : Actor) (lines : List Line) → AreLinesOf setup lines → (ActorFits setup actor → ⊥) → filter (λ (line : Line). same_actor line.actor actor) lines ≡ []
unfolding AreLinesOf
no_own_lines setup actor [] fit none = refl
no_own_lines setup actor (line ∷ lines) fit none =
    none_by actor line (filter (λ (x : Line). same_actor x.actor actor) lines) (λ same. none (subst (λ (a : Actor). ActorFits setup a) same fit.0)) (no_own_lines setup actor lines fit.2 none) (same_actor line.actor actor) refl

-- ---- the actor has ended
abbrev HasEndedAt : ScriptData → Actor → Option Seat → Type 0
HasEndedAt script actor found = slice_get (lines_of script actor) (place_in found) ≡ None

line_ended : (script : ScriptData) (c : Carried) (aim : ℕ) (seat : Seat) (line : Option Line) → IsThroughIn script c.played (Some seat) → present_line script seat ≡ line → ahead_at script c seat line aim ≡ Passes → line ≡ None
line_ended script c aim seat None is present ahead = refl
line_ended script c aim seat (Some line) is present ahead =
    let view : View = view_of c.played.state seat.actor in
    let anyway : ahead_of (aimed_clocks script c aim) true view line seat ≡ Passes = posted_next (aimed_clocks script c aim) (name_posted c.names line.verb) line.actor line.verb seat.point view seat.unawaited ahead in
    let alike : Alike (ahead_of (clocks_of script c.played) true view line seat) (ahead_of (aimed_clocks script c aim) true view line seat) = ahead_alike (clocks_of script c.played) (aimed_clocks script c aim) true line.actor line.verb seat.point view seat.unawaited in
    let passes : is_passed (ahead_of (clocks_of script c.played) true view line seat) ≡ true = passed_alike _ _ alike ∙ ap is_passed anyway in
    absurd (true≢false (sym passes ∙ is line present))

seat_ended : (script : ScriptData) (turns : List Turn) (actor : Actor) (aim : ℕ) (found : Option Seat) → AreLinesOf script.setup script.lines → seat_of (carried script turns).seats actor ≡ found → IsThroughIn script (carried script turns).played found → ahead_in script (carried script turns) found aim ≡ Passes → HasEndedAt script actor found
seat_ended script turns actor aim None fit is passes ahead =
    ap (λ (lines : List Line). slice_get lines 0) (no_own_lines script.setup actor script.lines fit (λ fits. has_seat script actor turns fits is))
seat_ended script turns actor aim (Some seat) fit is passes ahead =
    let same : seat.actor ≡ actor = actor_same seat.actor actor (find_true (λ (x : Seat). same_actor x.actor actor) (carried script turns).seats seat is) in
    ap (λ (a : Actor). slice_get (lines_of script a) seat.place) (sym same) ∙ line_ended script (carried script turns) aim seat (present_line script seat) passes refl ahead

pub has_ended : (script : ScriptData) (turns : List Turn) (actor : Actor) (aim : ℕ) → AreLinesOf script.setup script.lines → own_ahead script (carried script turns) actor aim ≡ Passes → slice_get (lines_of script actor) (place_in (seat_of (carried script turns).seats actor)) ≡ None
has_ended script turns actor aim fit ahead = seat_ended script turns actor aim (seat_of (carried script turns).seats actor) fit refl (through_carried script turns actor) ahead

-- ---- where an actor's lines end
none_past : {X : Type 0} (xs : List X) (i : ℕ) → slice_get xs i ≡ None → length xs ≤ i
none_past [] i none = omega arith
none_past (x ∷ xs) zero none = absurd (none-some x (sym none))
none_past (x ∷ xs) (suc i) none = let less : length xs ≤ i = none_past xs i none in omega (arith, less)

end_of : {X : Type 0} (xs : List X) (count i : ℕ) → count ≡ length xs → IsTrue (leb count i) ↔ (slice_get xs i ≡ None)
end_of xs count i is = (
  λ less. let within : count ≤ i = leb-true count i less in slice_get_past xs i (omega (arith, within, is)),
  λ none. let within : length xs ≤ i = none_past xs i none in le-leb count i (omega (arith, within, is)),
)

abbrev pub Ends : ScriptData → Actor → ℕ → Bool → Type 0
Ends script actor done ended = IsTrue ended ↔ (slice_get (lines_of script actor) done ≡ None)

-- beside a seat all lines of its actor stand
pub ends_seated : (script : ScriptData) (turns : List Turn) (names : List (List ℕ)) (held : List Holds) (seated : List Seated) (actor : Actor) (s : Seated) (done : ℕ) → SitsAt script (carried script turns) names held seated → seated_of seated actor ≡ Some s → (count : ℕ) → count ≡ length s.lines.items → Ends script actor done (leb count done)
ends_seated script turns names held seated actor s done k is count counted =
    let found : IsFound script (Some s) (seat_of (carried script turns).seats actor) = is_found script (carried script turns) names held seated actor (Some s) k is in
    let same : s.seat.actor ≡ actor = actor_same s.seat.actor actor (find_true (λ (x : Seated). same_actor x.seat.actor actor) seated s is) in
    subst (λ (lines : List Line). IsTrue (leb count done) ↔ (slice_get lines done ≡ None)) (found.1.lines ∙ ap (λ (a : Actor). lines_of script a) same) (end_of s.lines.items count done counted)

-- an actor without a seat has no line
pub ends_unseated : (script : ScriptData) (turns : List Turn) (names : List (List ℕ)) (held : List Holds) (seated : List Seated) (actor : Actor) (done : ℕ) → AreLinesOf script.setup script.lines → SitsAt script (carried script turns) names held seated → seated_of seated actor ≡ None → Ends script actor done true
ends_unseated script turns names held seated actor done fit k is =
    let none : seat_of (carried script turns).seats actor ≡ None = is_found script (carried script turns) names held seated actor None k is in
    let lines : lines_of script actor ≡ [] = no_own_lines script.setup actor script.lines fit (λ fits. has_seat script actor turns fits none) in
    (λ t. ap (λ (ls : List Line). slice_get ls done) lines, λ ended. cc)
