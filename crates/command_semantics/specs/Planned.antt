-- What a script plans of its history: its faults, its ticks, and the readings of its clocks.
use Rattle.std.specs.Prelude.{◌≡◌, ℕ, ◌+◌, ◌≤◌, Bool, false, List, [], ◌∷◌, count_by, slice_index_or, Option, None, Some, IsSomeAnd}
use Rattle.stamp_base.specs.declared.stores.Store.{Store}
use Rattle.port_io.specs.Planned.{PlannedFault, same_store}
use Rattle.history_book.specs.Members.{AtEach}
use Rattle.history_book.specs.declared.cause.Cause.{Cause}
use Rattle.history_book.specs.declared.cause.Cause.TheVariants as cause
use Rattle.history_book.specs.declared.item.Actor.{Actor}
use Rattle.history_book.specs.declared.item.Actor.TheVariants.{Clock, Node, Session}
use Rattle.history_book.specs.declared.item.Item.{Item}
use Rattle.history_book.specs.declared.item.Item.TheVariants as item
use Rattle.script_data.specs.declared.line.Line.{Line}
use Rattle.script_data.specs.declared.line.Verb.{Verb}
use Rattle.script_data.specs.declared.line.Verb.TheVariants as verb
use Rattle.script_data.specs.Data.{ScriptData}
use Rattle.cause_rules.specs.Since.{last_told}
use Rattle.cause_rules.specs.Asks.{its_node}

-- ---- faults
abbrev pub is_fault_of : Store → Item → Bool
is_fault_of store (item.Fault actor failed) = same_store failed store
is_fault_of store _ = false

abbrev pub plans : Store → PlannedFault → Bool
plans store fault = same_store fault.0 store

-- no more faults of a store than were planned
abbrev pub FaultsArePlanned : ScriptData → List Item → Type 0
FaultsArePlanned script h = (store : Store) → count_by (is_fault_of store) h ≤ count_by (plans store) script.faults

-- ---- ticks
-- the times that were told, in order
unfoldable pub times_told : List Item → List ℕ
times_told [] = []
times_told (item.Tick to ∷ xs) = to ∷ times_told xs
times_told (x ∷ xs) = times_told xs

-- how long the clock's lines tick, in order
abbrev pub tick_by : Actor → Verb → Option ℕ
tick_by Clock (verb.Tick by) = Some by
tick_by actor verb = None

abbrev pub with_tick : Option ℕ → List ℕ → List ℕ
with_tick None ticks = ticks
with_tick (Some by) ticks = by ∷ ticks

unfoldable pub ticks_in : List Line → List ℕ
ticks_in [] = []
ticks_in (line ∷ lines) = with_tick (tick_by line.actor line.verb) (ticks_in lines)

-- the times after these ticks, from a time on
unfoldable pub times_from : ℕ → List ℕ → List ℕ
times_from now [] = []
times_from now (by ∷ ticks) = (now + by) ∷ times_from (now + by) ticks

-- ---- readings
abbrev pub time_by : Item → Option ℕ
time_by (item.Tick to) = Some to
time_by _ = None

abbrev pub time_or_start : Option ℕ → ℕ
time_or_start None = 0
time_or_start (Some time) = time

-- what a node's clock shows: the time that was told last, or 0, and the node's lead
abbrev pub shown : List ℕ → List Item → ℕ → ℕ
shown leads before node = time_or_start (last_told time_by before) + slice_index_or leads node 0

-- the reading is that of the node's clock; of a request that has expired, the node that the session asked last
abbrev pub IsCauseTimed : List ℕ → List Item → Actor → Cause → Type 0
IsCauseTimed leads before (Node n) (cause.Early reading until) = reading ≡ shown leads before n
IsCauseTimed leads before (Session s) (cause.Expired reading until) = IsSomeAnd (its_node before s) (λ (n : ℕ). reading ≡ shown leads before n)
IsCauseTimed leads before actor why = Unit {0}

abbrev pub IsTimed : List ℕ → List Item → Item → Type 0
IsTimed leads before (item.Take node reading term epoch until ceiling) = reading ≡ shown leads before node
IsTimed leads before (item.Renew node reading term until) = reading ≡ shown leads before node
IsTimed leads before (item.Accept session node term reading) = reading ≡ shown leads before node
IsTimed leads before (item.Refused actor why) = IsCauseTimed leads before actor why
IsTimed leads before x = Unit {0}

pub record Planned (script : ScriptData) (h : List Item) : Type 0 where
  pub faults : FaultsArePlanned script h
  pub times : times_told h ≡ times_from 0 (ticks_in script.lines)
  pub readings : AtEach (IsTimed script.leads) h
