-- What a run of turns can wait for, where no turn can be made.
use Rattle.std.specs.Prelude.{◌≡◌, ℕ, ◌⊎◌, Bool, true, false, List, [], Some}
use Rattle.stamp_base.specs.declared.stage.Stage.{Stage}
use Rattle.stamp_base.specs.declared.stage.Stage.TheVariants.{Request, Persist, Reply}
use Rattle.stamp_base.specs.SetupNumbers.{AreInRange}
use Rattle.history_book.specs.declared.item.Actor.{Actor}
use Rattle.history_book.specs.declared.item.Actor.TheVariants.{Session}
use Rattle.system_parts.specs.declared.instance.Place.{Place}
use Rattle.system_parts.specs.declared.instance.Place.TheVariants as place
use Rattle.script_data.specs.declared.line.Line.{Line}
use Rattle.script_data.specs.declared.line.Verb.TheVariants as verb
use Rattle.script_data.specs.Data.{ScriptData}
use Rattle.command_semantics.specs.Laws.{IsPlayable, AreLinesOf}
use Rattle.turn_rules.specs.declared.ahead.NextAction.TheVariants.{Waits}
use Rattle.turn_rules.specs.declared.ahead.Why.TheVariants as why
use Rattle.turn_rules.specs.declared.seat.Seat.{Seat}
use Rattle.turn_rules.specs.declared.turn.Turn.{Turn}
use Rattle.turn_rules.specs.Seats.{lines_left, present_line}
use Rattle.session_script.specs.PostedNames.{is_posted}
use Rattle.turn_rules.specs.Carried.{Carried, is_held, holds_at, seat_ahead, seat_of, carried}
use Rattle.turn_rules.specs.Lawful.{session_view, IsLawful}
use Rattle.turn_rules.specs.Told.{AreForThreads}

-- no turn can be made after these
abbrev pub IsStuck : ScriptData → List Turn → Type 0
IsStuck script turns = (t : Turn) → IsLawful script (carried script turns) t → ⊥

-- the stage that a request stands before, by its place and by whether it is a commit
abbrev pub stage_before : Bool → Place → Stage
stage_before commit place.Asked = Request
stage_before commit place.Accepted = Request
stage_before true place.Drawn = Persist
stage_before false place.Drawn = Reply
stage_before commit place.Settled = Reply

abbrev pub IsHeld : Carried → ℕ → Stage → Type 0
IsHeld c node stage = is_held (holds_at c.held node) stage ≡ true

-- the begin at the node has its stamp, and waits for a commit of that node whose put is held
pub record WaitsForPut (c : Carried) (s node : ℕ) (at : Place) : Type 0 where
  pub begins : (session_view c.played.state s).commit ≡ false
  pub drawn : at ≡ place.Drawn
  pub held : IsHeld c node Persist

-- the session's request stands before a stage of its node that is held, or waits for one that does
pub record StandsBefore (c : Carried) (s : ℕ) : Type 0 where
  pub node : ℕ
  pub at : Place
  pub request : (session_view c.played.state s).request ≡ Some (node, at)
  pub held : IsHeld c node (stage_before (session_view c.played.state s).commit at) ⊎ WaitsForPut c s node at

-- the actor's line awaits a name that is not posted
pub record AwaitsName (script : ScriptData) (c : Carried) (seat : Seat) : Type 0 where
  pub line : Line
  pub name : List ℕ
  pub present : present_line script seat ≡ Some line
  pub awaits : line.verb ≡ verb.Await name
  pub unposted : is_posted c.names name ≡ false

-- the session's line waits for its request
pub record AwaitsReply (script : ScriptData) (c : Carried) (seat : Seat) : Type 0 where
  pub session : ℕ
  pub actor : seat.actor ≡ Session session
  pub waits : (aim : ℕ) → seat_ahead script c seat aim ≡ Waits why.Reply
  pub before : StandsBefore c session

-- where no turn can be made each actor has passed all its lines, or awaits a name that no turn has posted, or waits for a request
-- that stands before a stage that is held
abbrev pub StuckRunsWait : Type 0
StuckRunsWait =
    (script : ScriptData) (turns : List Turn) (actor : Actor) (seat : Seat) → AreInRange script.setup → IsPlayable script 0 script.lines → AreLinesOf script.setup script.lines → AreForThreads script.lines → IsStuck script turns → seat_of (carried script turns).seats actor ≡ Some seat →
    (lines_left script seat ≡ []) ⊎ AwaitsName script (carried script turns) seat ⊎ AwaitsReply script (carried script turns) seat
