-- For this crate's own proofs.
-- Where an actor has passed its lines, none is passed again while its lines see the same, whatever the clocks.
use Rattle.run_board.proofs.Names.{◌≡◌, Bool, true, false, cond, List, [], ◌∷◌, Option, Some, None, All, refl, sym, ◌∙◌}
use Rattle.run_board.proofs.Names.{ap, subst, All-map, Actor, Clock, Node, Session, Janitor, Event, Line, Verb}
use Rattle.run_board.proofs.Names.{ScriptData, Point, Opens, View, Clocks, clocks_of, view_of, Seat, Turn, own_opens}
use Rattle.run_board.proofs.Names.{own_next, lines_of, lines_left, with_next_line, ahead_of, is_passed, passed, Carried}
use Rattle.run_board.proofs.Names.{event_of, with_event, seat_passed, all_passed, turned_by, turned, at_first, carried}
use Rattle.run_board.proofs.Names.{passed_actor, drop_next}
use Rattle.std.proofs.Common.{fold}
use Rattle.script_data.specs.declared.line.Verb.TheVariants as verb

-- ---- whether a line is passed does not hang on the clocks
opens_alike : (a b : Clocks) (actor : Actor) (line : Verb) (view : View) (unawaited : Bool) → is_passed (own_opens a true actor line view unawaited) ≡ is_passed (own_opens b true actor line view unawaited)
opens_alike a b Clock (verb.Await name) view unawaited = refl
opens_alike a b Clock _ view unawaited = refl
opens_alike a b (Node n) (verb.Await name) view unawaited = refl
opens_alike a b (Node n) _ view unawaited = refl
opens_alike a b (Session s) (verb.Await name) view unawaited = refl
opens_alike a b (Session s) verb.Collect view unawaited = refl
opens_alike a b (Session s) _ view unawaited = refl
opens_alike a b Janitor (verb.Await name) view unawaited = refl
opens_alike a b Janitor _ view unawaited = refl

alike : (a b : Clocks) (actor : Actor) (line : Verb) (at : Point) (view : View) (unawaited : Bool) → is_passed (own_next a true actor line at view unawaited) ≡ is_passed (own_next b true actor line at view unawaited)
alike a b actor line Opens view unawaited = opens_alike a b actor line view unawaited
alike a b Clock line _ view unawaited = refl
alike a b (Node n) line _ view unawaited = refl
alike a b (Session s) line _ view unawaited = refl
alike a b Janitor line _ view unawaited = refl

passes_alike : (a b : Clocks) (view : View) (rest : List Line) (seat : Seat) → passed a view rest seat ≡ passed b view rest seat
unfolding passed
passes_alike a b view [] seat = refl
passes_alike a b view (line ∷ rest) seat = λ k. cond (alike a b line.actor line.verb seat.point view seat.unawaited k) (passes_alike a b view rest (with_next_line line seat) k) seat

-- ---- what has passed its lines
-- the seat passes no line
abbrev pub HasPassed : ScriptData → View → Seat → Type 0
HasPassed script view seat = (clocks : Clocks) → passed clocks view (lines_left script seat) seat ≡ seat

passed_none : (clocks : Clocks) (view : View) (seat : Seat) → passed clocks view [] seat ≡ seat
unfolding passed
passed_none clocks view seat = refl

passed_not : (clocks : Clocks) (view : View) (line : Line) (rest : List Line) (seat : Seat) → is_passed (ahead_of clocks true view line seat) ≡ false → passed clocks view (line ∷ rest) seat ≡ seat
unfolding passed
passed_not clocks view line rest seat not = ap (λ (b : Bool). cond b (passed clocks view rest (with_next_line line seat)) seat) not

once_by : (script : ScriptData) (clocks : Clocks) (view : View) (line : Line) (rest : List Line) (seat on : Seat) → lines_left script seat ≡ line ∷ rest → HasPassed script view on → (passes : Bool) → is_passed (ahead_of clocks true view line seat) ≡ passes → HasPassed script view (cond passes on seat)
once_by script clocks view line rest seat on is later true passes = later
once_by script clocks view line rest seat on is later false passes = λ other.
    ap (λ (lines : List Line). passed other view lines seat) is ∙ passed_not other view line rest seat (alike other clocks line.actor line.verb seat.point view seat.unawaited ∙ passes)

once : (script : ScriptData) (clocks : Clocks) (view : View) (rest : List Line) (seat : Seat) → lines_left script seat ≡ rest → HasPassed script view (passed clocks view rest seat)
unfolding passed
once script clocks view [] seat is = λ other. ap (λ (lines : List Line). passed other view lines seat) is ∙ passed_none other view seat
once script clocks view (line ∷ rest) seat is =
    once_by script clocks view line rest seat (passed clocks view rest (with_next_line line seat)) is (once script clocks view rest (with_next_line line seat) (drop_next seat.place (lines_of script seat.actor) line rest is)) (is_passed (ahead_of clocks true view line seat)) refl

-- ---- all seats, whichever turns were made
abbrev pub AllHavePassed : ScriptData → Carried → Type 0
AllHavePassed script c = All (λ seat. HasPassed script (view_of c.played.state seat.actor) seat) c.seats

seat_once : (script : ScriptData) (c : Carried) (seat : Seat) → HasPassed script (view_of c.played.state (seat_passed script c seat).actor) (seat_passed script c seat)
seat_once script c seat = subst (λ (a : Actor). HasPassed script (view_of c.played.state a) (seat_passed script c seat)) (sym (passed_actor script c seat)) (once script (clocks_of script c.played) (view_of c.played.state seat.actor) (lines_left script seat) seat refl)

all_once : (script : ScriptData) (c : Carried) → AllHavePassed script (all_passed script c)
all_once script c = All-map (λ seat. HasPassed script (view_of c.played.state seat.actor) seat) (seat_passed script c) c.seats (λ k d lt. seat_once script c _)

turned_once : (script : ScriptData) (c : Carried) (t : Turn) (e : Option Event) → AllHavePassed script c → AllHavePassed script (turned_by script c t e)
turned_once script c t None all = all
turned_once script c t (Some e) all = all_once script (with_event script c t e)

fold_once : (script : ScriptData) (turns : List Turn) (c : Carried) → AllHavePassed script c → AllHavePassed script (fold (turned script) c turns)
fold_once script [] c all = all
fold_once script (t ∷ turns) c all = fold_once script turns (turned script c t) (turned_once script c t (event_of script c t) all)

pub all_have_passed : (script : ScriptData) (turns : List Turn) → AllHavePassed script (carried script turns)
all_have_passed script turns = fold_once script turns (all_passed script (at_first script)) (all_once script (at_first script))
