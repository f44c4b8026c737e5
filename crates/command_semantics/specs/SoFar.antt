-- What was played so far keeps to the plan of its script.
use Rattle.std.specs.Prelude.{◌≡◌, ℕ, ◌+◌, ◌≤◌, nat_le, Bool, ◌&&◌, List, [], ◌∷◌, ◌++◌, sum, count_by, Option, None, Some, IsSomeAnd}
use Rattle.stamp_base.specs.declared.stores.Store.{Store}
use Rattle.port_io.specs.Planned.{PlannedFault}
use Rattle.history_book.specs.Members.{AtEach}
use Rattle.history_book.specs.declared.item.Actor.{Actor}
use Rattle.machine.specs.declared.event.Event.{Event}
use Rattle.machine.specs.declared.event.Event.TheVariants as event
use Rattle.script_data.specs.declared.line.Verb.{Verb}
use Rattle.script_data.specs.Data.{ScriptData}
use Rattle.cause_rules.specs.Since.{last_told}
use Rattle.command_semantics.specs.declared.point.Point.{Point}
use Rattle.command_semantics.specs.declared.point.Point.TheVariants.{Opens}
use Rattle.command_semantics.specs.Next.{Clocks, reading_at}
use Rattle.command_semantics.specs.Runs.{Played, calls_on}
use Rattle.command_semantics.specs.Planned.{is_fault_of, plans, times_told, tick_by, times_from, time_by, time_or_start, IsTimed}

-- ---- events that read the clocks
-- a take, a renewal and an acceptance have the reading of their node's clock; a tick goes on from the base clock by so much,
-- and nothing else is a tick
abbrev pub ReadsClocks : Clocks → Option ℕ → Event → Type 0
ReadsClocks clocks tick (event.Tick to) = IsSomeAnd tick (λ (by : ℕ). to ≡ clocks.base + by)
ReadsClocks clocks tick (event.Take node reading) = (tick ≡ None) × (reading ≡ reading_at clocks node)
ReadsClocks clocks tick (event.Renew node reading) = (tick ≡ None) × (reading ≡ reading_at clocks node)
ReadsClocks clocks tick (event.Accept node session reading) = (tick ≡ None) × (reading ≡ reading_at clocks node)
ReadsClocks clocks tick _ = tick ≡ None

-- the ticks with one more, if there is one
abbrev pub ticks_with : List ℕ → Option ℕ → List ℕ
ticks_with ticks None = ticks
ticks_with ticks (Some by) = ticks ++ by ∷ []

-- the tick of an event that a line makes at this point: its first one ticks where the line does
abbrev pub tick_at : Point → Actor → Verb → Option ℕ
tick_at Opens actor verb = tick_by actor verb
tick_at _ actor verb = None

-- ---- what was played so far
-- the fault is planned for one of the first calls on the store
abbrev pub is_due : Store → ℕ → PlannedFault → Bool
is_due store calls fault = plans store fault && nat_le fault.1 calls

-- the clock ticked by so much, in this order
pub record PlannedSoFar (script : ScriptData) (ticks : List ℕ) (p : Played) : Type 0 where
  -- no more faults of a store were told than are planned for the calls that were made on it
  pub faults : (store : Store) → count_by (is_fault_of store) p.items ≤ count_by (is_due store (calls_on p.calls store)) script.faults
  pub times : times_told p.items ≡ times_from 0 ticks
  -- the clock has gone on by all ticks, and shows the time that was told last
  pub clock : p.clock ≡ sum ticks
  pub last : p.clock ≡ time_or_start (last_told time_by p.items)
  pub readings : AtEach (IsTimed script.leads) p.items
