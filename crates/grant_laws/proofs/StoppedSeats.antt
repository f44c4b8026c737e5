-- Once lines are passed, an actor with a line left has something ahead of it.
use Rattle.std.proofs.Common.{arith}
use Rattle.grant_laws.proofs.Names.{◌≡◌, ℕ, Bool, true, false, cond, List, [], ◌∷◌, Option, Some, None, ◌⊎◌, inl}
use Rattle.grant_laws.proofs.Names.{refl, fold, same_Some, none-some, Actor}
use Rattle.grant_laws.proofs.Names.{Session, Place, Event, Line, Verb, ScriptData, Point}
use Rattle.grant_laws.proofs.Names.{View, Clocks, is_served, places, placing_next, clocks_of}
use Rattle.grant_laws.proofs.Names.{view_of, Waits, Passes, Reply, Name, Seat, Turn, made_next, drive_ahead}
use Rattle.grant_laws.proofs.Names.{own_opens, own_next, lines_of, lines_left, with_next_line, ahead_of}
use Rattle.grant_laws.proofs.Names.{is_passed, passed, Carried, seat_of, event_of, with_event, all_passed}
use Rattle.grant_laws.proofs.Names.{turned_by, turned, at_first, carried, drop_next, passed_actor, passed_seat}
use Rattle.script_data.specs.declared.line.Verb.TheVariants as verb

-- ---- the seat once lines are passed
-- no line is left, or something is ahead of the first
pub record HasAhead (script : ScriptData) (clocks : Clocks) (view : View) (seat : Seat) : Type 0 where
  pub line : Line
  pub rest : List Line
  pub left : lines_left script seat ≡ line ∷ rest
  pub ahead : is_passed (ahead_of clocks true view line seat) ≡ false

abbrev pub HasStopped : ScriptData → Clocks → View → Seat → Type 0
HasStopped script clocks view seat = (lines_left script seat ≡ []) ⊎ HasAhead script clocks view seat

stops_by : (script : ScriptData) (clocks : Clocks) (view : View) (seat on : Seat) (line : Line) (rest : List Line) → lines_left script seat ≡ line ∷ rest → HasStopped script clocks view on → (passes : Bool) → is_passed (ahead_of clocks true view line seat) ≡ passes → HasStopped script clocks view (cond passes on seat)
stops_by script clocks view seat on line rest is later passes stays = grind arith

pub stops : (script : ScriptData) (clocks : Clocks) (view : View) (rest : List Line) (seat : Seat) → lines_left script seat ≡ rest → HasStopped script clocks view (passed clocks view rest seat)
unfolding passed
stops script clocks view [] seat is = inl is
stops script clocks view (line ∷ rest) seat is = stops_by script clocks view seat (passed clocks view rest (with_next_line line seat)) line rest is (stops script clocks view rest (with_next_line line seat) (drop_next seat.place (lines_of script seat.actor) line rest is)) (is_passed (ahead_of clocks true view line seat)) refl

-- ---- all seats
abbrev pub AllStopped : ScriptData → Carried → Type 0
AllStopped script c = (actor : Actor) (seat : Seat) → seat_of c.seats actor ≡ Some seat → HasStopped script (clocks_of script c.played) (view_of c.played.state seat.actor) seat

all_stopped : (script : ScriptData) (c : Carried) → AllStopped script (all_passed script c)
all_stopped script c actor seat is = grind (arith, passed_seat, none-some, stops, same_Some, passed_actor)

turned_stopped : (script : ScriptData) (c : Carried) (t : Turn) (e : Option Event) → AllStopped script c → AllStopped script (turned_by script c t e)
turned_stopped script c t None k = k
turned_stopped script c t (Some e) k = all_stopped script (with_event script c t e)

stopped_on : (script : ScriptData) (turns : List Turn) (c : Carried) → AllStopped script c → AllStopped script (fold (turned script) c turns)
stopped_on script [] c k = k
stopped_on script (t ∷ turns) c k = stopped_on script turns (turned script c t) (turned_stopped script c t (event_of script c t) k)

pub always_stopped : (script : ScriptData) (turns : List Turn) → AllStopped script (carried script turns)
always_stopped script turns = stopped_on script turns (all_passed script (at_first script)) (all_stopped script (at_first script))

-- ---- what is ahead
not_waiting : (why : Rattle.turn_rules.specs.declared.ahead.Why.Why) (e : Option Event) → made_next e ≡ Waits why → ⊥
not_waiting why e is = grind arith

-- whether the name is posted does not make a line pass
pub passes_anyway : (clocks : Clocks) (posted : Bool) (actor : Actor) (v : Verb) (point : Point) (view : View) (unawaited : Bool) → own_next clocks posted actor v point view unawaited ≡ Passes → own_next clocks true actor v point view unawaited ≡ Passes
passes_anyway clocks posted actor v point view unawaited is = grind arith

-- a line that waits for a name awaits one that is not posted
abbrev pub LacksName : Bool → Verb → Type 0
LacksName posted v = (name : List ℕ) × (v ≡ verb.Await name) × (posted ≡ false)

drives_name : (s : ℕ) (v : Verb) (view : View) (request : Option (ℕ × Place)) → drive_ahead s v view request ≡ Waits Name → ⊥
drives_name s v view None is = not_waiting Name (placing_next s view.doing (places v)) is
drives_name s v view (Some request) is = served_name (is_served v request.1) is
  where
    served_name : (served : Bool) → cond served (Waits Reply) Passes ≡ Waits Name → ⊥
    served_name true clash = absurd (cc)
    served_name false clash = absurd (cc)

pub next_name : (clocks : Clocks) (posted : Bool) (actor : Actor) (v : Verb) (point : Point) (view : View) (unawaited : Bool) → own_next clocks posted actor v point view unawaited ≡ Waits Name → LacksName posted v
next_name clocks posted actor v point view unawaited is = grind (arith, drives_name)

-- a line that waits for a reply is a session's, which has a request
pub record HasRequest (actor : Actor) (view : View) : Type 0 where
  pub session : ℕ
  pub actor_is : actor ≡ Session session
  pub request : ℕ × Place
  pub is : view.request ≡ Some request

has_request : (s : ℕ) (view : View) (request : Option (ℕ × Place)) → view.request ≡ request → (request ≡ None → ⊥) → HasRequest (Session s) view
has_request s view request is some = grind arith

drives_reply : (s : ℕ) (v : Verb) (view : View) (request : Option (ℕ × Place)) → drive_ahead s v view request ≡ Waits Reply → request ≡ None → ⊥
drives_reply s v view request is none = grind (arith, none-some)

opens_reply : (clocks : Clocks) (posted : Bool) (actor : Actor) (v : Verb) (view : View) (unawaited : Bool) → own_opens clocks posted actor v view unawaited ≡ Waits Reply → HasRequest actor view
opens_reply clocks posted actor v view unawaited is = grind (arith, none-some)

pub next_reply : (clocks : Clocks) (posted : Bool) (actor : Actor) (v : Verb) (point : Point) (view : View) (unawaited : Bool) → own_next clocks posted actor v point view unawaited ≡ Waits Reply → HasRequest actor view
next_reply clocks posted actor v point view unawaited is =
    grind (arith, opens_reply, not_waiting, has_request, drives_reply)
