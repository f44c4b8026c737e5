-- Every run ends, and what a script comes to keeps all facts.
use Rattle.std.specs.Prelude.{◌≡◌, ℕ, ◌+◌, ◌<◌, ◌≤◌, ◌^◌, List, [], ◌∷◌, slice_index_or, None, Some}
use Rattle.stamp_base.specs.SetupNumbers.{SetupNumbers, AreInRange}
use Rattle.port_io.specs.declared.weather.Fate.{Fate}
use Rattle.history_book.specs.declared.item.Actor.{Actor}
use Rattle.history_book.specs.declared.item.Actor.TheVariants.{Node, Session}
use Rattle.history_book.specs.declared.item.Item.{Item}
use Rattle.machine.specs.declared.event.Event.{Event}
use Rattle.machine.specs.State.{State}
use Rattle.machine.specs.Machine.{stepped}
use Rattle.script_data.specs.declared.line.Line.{Line}
use Rattle.script_data.specs.declared.line.Target.{Target}
use Rattle.script_data.specs.declared.line.Target.TheVariants as target
use Rattle.script_data.specs.declared.line.Verb.{Verb}
use Rattle.script_data.specs.declared.line.Verb.TheVariants as verb
use Rattle.script_data.specs.Data.{ScriptData}
use Rattle.script_data.specs.Ticks.{ticks_of}
use Rattle.isolation_laws.specs.Sound.{ReachedInvariant}
use Rattle.command_semantics.specs.declared.point.Point.{Point}
use Rattle.command_semantics.specs.Interruptions.{halt_of, follows}
use Rattle.command_semantics.specs.Views.{view_of}
use Rattle.command_semantics.specs.Next.{Clocks, next}
use Rattle.command_semantics.specs.Answers.{Answers}
use Rattle.command_semantics.specs.Left.{left}
use Rattle.command_semantics.specs.Runs.{Played, next_in, line_run, lines_played, script_played, replayed}

-- each event that a run makes lowers what is left, in every state that is reached, under every fate
abbrev pub EventsLowerWhatIsLeft : Type 0
EventsLowerWhatIsLeft =
    (w : State) (h : List Item) (clocks : Clocks) (actor : Actor) (verb : Verb) (point : Point) (e : Event) (fate : Fate) → ReachedInvariant w h → next clocks actor verb point (view_of w actor) ≡ Some e →
    left (stepped w e fate).state actor verb (follows verb point (halt_of (stepped w e fate).stop)) < left w actor verb point

-- ---- what is asked of a script: its numbers are in range, no clock is ahead by more than the skew, and its ticks are few
pub record IsPlayable (script : ScriptData) (clock : ℕ) (lines : List Line) : Type 0 where
  pub leads : (node : ℕ) → slice_index_or script.leads node 0 ≤ script.setup.skew
  pub ticks : clock + ticks_of lines + script.setup.skew ≤ 2 ^ 61

-- what was played is reached: all facts hold, by the setup of the script, and no reading was ahead of the clock by more than
-- the skew
pub record IsReached (script : ScriptData) (p : Played) : Type 0 where
  pub stands : ReachedInvariant p.state p.items
  pub setup : p.state.setup ≡ script.setup
  pub seen : p.state.seen ≤ p.clock + script.setup.skew

-- the run of a line goes to its end
abbrev pub RunsEnd : Type 0
RunsEnd =
    (script : ScriptData) (line : Line) (p : Played) → IsReached script p → IsPlayable script p.clock (line ∷ []) → next_in script line (line_run script line p) ≡ None

-- the lines of a script lead from what is reached to what is reached
abbrev pub LinesKeepFacts : Type 0
LinesKeepFacts =
    (script : ScriptData) (lines : List Line) (p : Played) → IsReached script p → IsPlayable script p.clock lines → IsReached script (lines_played script lines p)

-- so does a whole script
abbrev pub ScriptsAreReached : Type 0
ScriptsAreReached = (script : ScriptData) → AreInRange script.setup → IsPlayable script 0 script.lines → IsReached script (script_played script)

-- ---- each line is answered
-- the actor is one of the system's, and so is the node that a session's line names
abbrev pub ActorFits : SetupNumbers → Actor → Type 0
ActorFits setup (Node n) = n < setup.nodes
ActorFits setup (Session s) = s < 16
ActorFits setup _ = Unit {0}

abbrev pub TargetFits : SetupNumbers → Target → Type 0
TargetFits setup (target.Node node) = node < setup.nodes
TargetFits setup target.Master = Unit {0}

abbrev pub VerbFits : SetupNumbers → Verb → Type 0
VerbFits setup (verb.Begin to) = TargetFits setup to
VerbFits setup (verb.Commit to) = TargetFits setup to
VerbFits setup (verb.Submit to) = TargetFits setup to
VerbFits setup (verb.AskBegin node) = node < setup.nodes
VerbFits setup (verb.AskCommit node) = node < setup.nodes
VerbFits setup _ = Unit {0}

-- so it is of each line
unfoldable pub AreLinesOf : SetupNumbers → List Line → Type 0
AreLinesOf setup [] = Unit {0}
AreLinesOf setup (line ∷ lines) = ActorFits setup line.actor × VerbFits setup line.verb × AreLinesOf setup lines

-- the history of a script answers its lines
abbrev pub LinesAreAnswered : Type 0
LinesAreAnswered = (script : ScriptData) → AreInRange script.setup → IsPlayable script 0 script.lines → AreLinesOf script.setup script.lines → Answers script (replayed script)
