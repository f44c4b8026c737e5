-- What is proved of turns.
use Rattle.std.specs.Prelude.{◌≡◌, ℕ, ◌<◌, ◌⊎◌, Bool, List, [], ◌∷◌, ◌++◌, filter, Option, None, Some}
use Rattle.stamp_base.specs.SetupNumbers.{AreInRange}
use Rattle.port_io.specs.declared.weather.Fate.{Fate}
use Rattle.history_book.specs.declared.item.Actor.{Actor}
use Rattle.history_book.specs.declared.item.Actor.TheVariants.{Clock}
use Rattle.history_book.specs.declared.item.Item.{Item}
use Rattle.machine.specs.declared.event.Doing.TheVariants.{Reading}
use Rattle.machine.specs.declared.event.Event.{Event}
use Rattle.machine.specs.State.{State}
use Rattle.machine.specs.Machine.{stepped}
use Rattle.script_data.specs.declared.line.Line.{Line}
use Rattle.script_data.specs.declared.line.Verb.{Verb}
use Rattle.script_data.specs.declared.line.Verb.TheVariants as verb
use Rattle.script_data.specs.Data.{ScriptData}
use Rattle.isolation_laws.specs.Sound.{ReachedInvariant}
use Rattle.command_semantics.specs.declared.point.Point.{Point}
use Rattle.command_semantics.specs.declared.point.Point.TheVariants.{Opens, Reads}
use Rattle.command_semantics.specs.Answers.{is_of, asks_some, Answered, AnswersOnThreads}
use Rattle.command_semantics.specs.Interruptions.{halt_of, follows}
use Rattle.command_semantics.specs.Laws.{IsPlayable, IsReached, AreLinesOf}
use Rattle.command_semantics.specs.Left.{left}
use Rattle.command_semantics.specs.Next.{Clocks}
use Rattle.command_semantics.specs.Planned.{ticks_in, Planned}
use Rattle.command_semantics.specs.Views.{view_of}
use Rattle.command_semantics.specs.SoFar.{PlannedSoFar}
use Rattle.turn_rules.specs.declared.ahead.NextAction.TheVariants.{Makes}
use Rattle.turn_rules.specs.declared.seat.Seat.{Seat}
use Rattle.turn_rules.specs.declared.turn.Turn.{Turn}
use Rattle.turn_rules.specs.Waiting.{own_next}
use Rattle.turn_rules.specs.Seats.{lines_left, present_line}
use Rattle.turn_rules.specs.Carried.{Carried, seat_of, carried, carried_items, AreWhole}

-- ---- each line ends
-- each event of an own turn lowers what is left of its line, in every state that is reached, under every fate
abbrev pub OwnEventsLowerWhatIsLeft : Type 0
OwnEventsLowerWhatIsLeft =
    (w : State) (h : List Item) (clocks : Clocks) (posted : Bool) (actor : Actor) (verb : Verb) (point : Point) (unawaited : Bool) (e : Event) (fate : Fate) → ReachedInvariant w h → own_next clocks posted actor verb point (view_of w actor) unawaited ≡ Makes e →
    left (stepped w e fate).state actor verb (follows verb point (halt_of (stepped w e fate).stop)) < left w actor verb point

-- ---- all facts hold, whichever turns were made
abbrev pub TurnsKeepFacts : Type 0
TurnsKeepFacts = (script : ScriptData) (turns : List Turn) → AreInRange script.setup → IsPlayable script 0 script.lines → IsReached script (carried script turns).played

-- ---- the script's plan
-- the lines that are not answered: the present one is, once it has opened
abbrev pub unanswered : Point → List Line → List Line
unanswered Opens lines = lines
unanswered _ [] = []
unanswered _ (line ∷ lines) = lines

-- the ticks that are ahead of the clock
abbrev pub ticks_ahead : ScriptData → Option Seat → List ℕ
ticks_ahead script None = []
ticks_ahead script (Some seat) = ticks_in (unanswered seat.point (lines_left script seat))

-- faults, times and readings are the planned ones, the clock having ticked as its lines say up to its seat
pub record IsPlannedSoFar (script : ScriptData) (c : Carried) : Type 0 where
  pub ticks : List ℕ
  pub planned : PlannedSoFar script ticks c.played
  pub ahead : ticks ++ ticks_ahead script (seat_of c.seats Clock) ≡ ticks_in script.lines

abbrev pub TurnsArePlannedSoFar : Type 0
TurnsArePlannedSoFar = (script : ScriptData) (turns : List Turn) → AreInRange script.setup → IsPlayable script 0 script.lines → IsPlannedSoFar script (carried script turns)

-- whole turns make the history that the script plans
abbrev pub TurnsArePlanned : Type 0
TurnsArePlanned = (script : ScriptData) (turns : List Turn) → AreInRange script.setup → IsPlayable script 0 script.lines → AreWhole script turns → Planned script (carried_items script turns)

-- ---- lines are answered
-- what answers these lines from here on answers all lines of the actor from the beginning
abbrev pub IsAnsweredTo : Actor → List Line → List Item → Option ℕ → List Line → Type 0
IsAnsweredTo actor all h begun lines = (later : List Item) → Answered asks_some actor h begun (filter (is_of actor) lines) later → Answered asks_some actor [] None (filter (is_of actor) all) (h ++ later)

-- the present line has begun a read, which is under way
pub record OwesRead (script : ScriptData) (c : Carried) (seat : Seat) : Type 0 where
  pub key : ℕ
  pub line : Line
  pub present : present_line script seat ≡ Some line
  pub reads : line.verb ≡ verb.Read key
  pub point : seat.point ≡ Reads
  pub doing : (view_of c.played.state seat.actor).doing ≡ Reading
  pub answered : IsAnsweredTo seat.actor script.lines c.played.items (Some key) (unanswered seat.point (lines_left script seat))

-- the lines that the actor has passed are answered, and so is the present line where it has opened; a read under way is owed
abbrev pub IsAnsweredSoFar : ScriptData → Carried → Seat → Type 0
IsAnsweredSoFar script c seat = IsAnsweredTo seat.actor script.lines c.played.items None (unanswered seat.point (lines_left script seat)) ⊎ OwesRead script c seat

abbrev pub TurnsAnswerSoFar : Type 0
TurnsAnswerSoFar =
    (script : ScriptData) (turns : List Turn) (actor : Actor) (seat : Seat) → AreInRange script.setup → IsPlayable script 0 script.lines → AreLinesOf script.setup script.lines → seat_of (carried script turns).seats actor ≡ Some seat →
    (seat.actor ≡ actor) × IsAnsweredSoFar script (carried script turns) seat

-- whole turns answer every line
abbrev pub TurnsAnswer : Type 0
TurnsAnswer = (script : ScriptData) (turns : List Turn) → AreInRange script.setup → IsPlayable script 0 script.lines → AreLinesOf script.setup script.lines → AreWhole script turns → AnswersOnThreads script (carried_items script turns)
