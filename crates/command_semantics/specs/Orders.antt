-- Events of a script that are made in any order.
use Rattle.std.specs.Prelude.{◌≡◌, ℕ, ◌+◌, ◌≤◌, ◌^◌, unwrap_or, List, [], ◌∷◌, Option, slice_index_or}
use Rattle.stamp_base.specs.SetupNumbers.{AreInRange}
use Rattle.machine.specs.declared.event.Event.{Event}
use Rattle.script_data.specs.Data.{ScriptData}
use Rattle.cause_laws.specs.ShownInvariant.{ExplainedInvariant}
use Rattle.command_semantics.specs.Runs.{Played, clocks_of, played, opening_played}
use Rattle.command_semantics.specs.Laws.{IsPlayable, IsReached}
use Rattle.command_semantics.specs.Planned.{with_tick, ticks_in, Planned}
use Rattle.command_semantics.specs.SoFar.{ReadsClocks}

-- an event, and how long it ticks, if it does
pub record TimedEvent : Type 0 where
  pub event : Event
  pub tick : Option ℕ

-- what they come to, one after the other
unfoldable pub all_played : ScriptData → List TimedEvent → Played → Played
all_played script [] p = p
all_played script (x ∷ xs) p = all_played script xs (played script p x.event)

-- each reads the clocks as they stand when it is made
unfoldable pub AllRead : ScriptData → List TimedEvent → Played → Type 0
AllRead script [] p = Unit {0}
AllRead script (x ∷ xs) p = ReadsClocks (clocks_of script p) x.tick x.event × AllRead script xs (played script p x.event)

-- how long they tick, in order
unfoldable pub ticks_made : List TimedEvent → List ℕ
ticks_made [] = []
ticks_made (x ∷ xs) = with_tick x.tick (ticks_made xs)

-- what was played is reached, and its history shows it
pub record IsTold (script : ScriptData) (p : Played) : Type 0 where
  pub reached : IsReached script p
  pub tells : ExplainedInvariant p.state p.items

-- so it stays with an event that reads the clocks: no clock is ahead by more than the skew, and the ticks are few
abbrev pub EventsStayTold : Type 0
EventsStayTold =
    (script : ScriptData) (tick : Option ℕ) (p : Played) (e : Event) → ((node : ℕ) → slice_index_or script.leads node 0 ≤ script.setup.skew) → p.clock + unwrap_or tick 0 + script.setup.skew ≤ 2 ^ 61 → IsTold script p → ReadsClocks (clocks_of script p) tick e →
    IsTold script (played script p e)

-- the history of events in any order is as the script plans it, where the clock ticks as the lines say
abbrev pub OrdersArePlanned : Type 0
OrdersArePlanned =
    (script : ScriptData) (events : List TimedEvent) → AreInRange script.setup → IsPlayable script 0 script.lines → AllRead script events (opening_played script) → ticks_made events ≡ ticks_in script.lines →
    Planned script (all_played script events (opening_played script)).items
