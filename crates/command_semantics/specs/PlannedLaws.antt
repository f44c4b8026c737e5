-- Every event that reads the clocks keeps to the script's plan, whatever the order that events are made in.
use Rattle.std.specs.Prelude.{◌≡◌, ℕ, List, [], Option, Some}
use Rattle.stamp_base.specs.SetupNumbers.{AreInRange}
use Rattle.history_book.specs.declared.item.Actor.{Actor}
use Rattle.machine.specs.declared.event.Event.{Event}
use Rattle.script_data.specs.declared.line.Verb.{Verb}
use Rattle.script_data.specs.Data.{ScriptData}
use Rattle.cause_laws.specs.ShownInvariant.{ExplainedInvariant}
use Rattle.command_semantics.specs.declared.point.Point.{Point}
use Rattle.command_semantics.specs.declared.point.View.{View}
use Rattle.command_semantics.specs.Next.{Clocks, next}
use Rattle.command_semantics.specs.Runs.{Played, clocks_of, played, opening_played, replayed}
use Rattle.command_semantics.specs.Laws.{IsPlayable}
use Rattle.command_semantics.specs.Planned.{ticks_in, Planned}
use Rattle.command_semantics.specs.SoFar.{ReadsClocks, ticks_with, tick_at, PlannedSoFar}

-- before the first event
abbrev pub PlannedAtFirst : Type 0
PlannedAtFirst = (script : ScriptData) → PlannedSoFar script [] (opening_played script)

-- an event keeps to the plan in every state that is reached, wherever it comes from
abbrev pub EventsStayPlanned : Type 0
EventsStayPlanned =
    (script : ScriptData) (ticks : List ℕ) (tick : Option ℕ) (p : Played) (e : Event) → ExplainedInvariant p.state p.items → ReadsClocks (clocks_of script p) tick e → PlannedSoFar script ticks p →
    PlannedSoFar script (ticks_with ticks tick) (played script p e)

-- once the clock has ticked as the script's lines say, the history is the script's plan
abbrev pub PlannedInTheEnd : Type 0
PlannedInTheEnd = (script : ScriptData) (p : Played) → PlannedSoFar script (ticks_in script.lines) p → Planned script p.items

-- the events of lines read the clocks
abbrev pub LinesReadClocks : Type 0
LinesReadClocks =
    (clocks : Clocks) (actor : Actor) (verb : Verb) (point : Point) (view : View) (e : Event) → next clocks actor verb point view ≡ Some e → ReadsClocks clocks (tick_at point actor verb) e

-- the history of a script that is carried out in file order is as the script plans it
abbrev pub ScriptsArePlanned : Type 0
ScriptsArePlanned = (script : ScriptData) → AreInRange script.setup → IsPlayable script 0 script.lines → Planned script (replayed script)
