-- The janitor makes the next step of the open sweep, which is one call on a store. A failed step ends the sweep.
use Rattle.std.specs.Prelude.{ℕ, Bool, true, false, List, [], ◌∷◌, ◌++◌, Option, None, Some, length}
use Rattle.stamp_base.specs.declared.stores.Store.{Store}
use Rattle.stamp_base.specs.declared.stores.Store.TheVariants.{Cells}
use Rattle.port_io.specs.declared.weather.Fate.{Fate}
use Rattle.port_io.specs.declared.weather.Fate.TheVariants.{Works}
use Rattle.history_book.specs.declared.cause.Cause.TheVariants as cause
use Rattle.history_book.specs.declared.item.Actor.TheVariants.{Janitor}
use Rattle.history_book.specs.declared.item.StoreStep.TheVariants as step
use Rattle.history_book.specs.declared.item.Item.{Item}
use Rattle.history_book.specs.declared.item.Item.TheVariants as item
use Rattle.system_parts.specs.Rows.{Row, keys_of_version}
use Rattle.system_parts.specs.Pairs.{Pairs}
use Rattle.system_parts.specs.declared.asks.Ask.{Ask}
use Rattle.system_parts.specs.declared.asks.Ask.TheVariants as ask
use Rattle.system_parts.specs.declared.asks.Told.{Told}
use Rattle.system_parts.specs.Sweep.{Sweeping, sweep_ask, sweep_told, sweep_listed, is_undecided}
use Rattle.machine.specs.Effect.{Effect, Stop, Refuses, Faults, done, refused, faulted}
use Rattle.machine.specs.StoreSteps.{Met, met, store_of}
use Rattle.machine.specs.Events.Step.{store_asked}

abbrev pub SweepParts : Type 0
SweepParts = Option Sweeping × List Row × Pairs

-- a sweep that has ended is open no longer
abbrev pub still_open : Sweeping → Option Ask → Option Sweeping
still_open s None = None
still_open s (Some asked) = Some s

abbrev pub sweep_left : Sweeping → Option Sweeping
sweep_left s = still_open s (sweep_ask s)

-- it ends as undecided, which is told at once
abbrev pub undecided_items : Sweeping → Bool → List Item
undecided_items s true = item.Refused Janitor (cause.Undecided s.txn s.epoch) ∷ []
undecided_items s false = []

abbrev pub undecided_stop : Sweeping → Bool → Option Stop
undecided_stop s true = Some (Refuses (cause.Undecided s.txn s.epoch))
undecided_stop s false = None

-- by what the step was told
abbrev pub sweep_by : Sweeping → Ask → Met → Option Told → Effect SweepParts
sweep_by s asked m None = record { parts = (None, m.rows, m.pairs); items = m.items; stop = Some (Faults (store_of asked)) }
sweep_by s asked m (Some answer) = record {
  parts = (sweep_left (sweep_told s answer), m.rows, m.pairs);
  items = m.items ++ undecided_items s (is_undecided (sweep_told s answer));
  stop = undecided_stop s (is_undecided (sweep_told s answer));
}

abbrev pub sweep_met : Sweeping → Ask → Met → Effect SweepParts
sweep_met s asked m = sweep_by s asked m m.told

-- the keys of the transaction's cells are listed
abbrev pub sweep_lists : Sweeping → ℕ → Fate → List Row → Pairs → Effect SweepParts
sweep_lists s txn Works rows pairs =
    done (sweep_left (sweep_listed s (keys_of_version rows txn)), rows, pairs) (item.Step Janitor (step.Keys txn (length (keys_of_version rows txn))) ∷ [])
sweep_lists s txn fate rows pairs = faulted (None, rows, pairs) Janitor Cells []

abbrev pub sweep_at : Sweeping → Fate → List Row → Pairs → Option Ask → Effect SweepParts
sweep_at s fate rows pairs None = done (None, rows, pairs) []
sweep_at s fate rows pairs (Some (ask.Keys txn)) = sweep_lists s txn fate rows pairs
sweep_at s fate rows pairs (Some asked) = sweep_met s asked (met Janitor asked fate rows pairs)

abbrev pub sweep_step_on : Fate → Option Sweeping → List Row → Pairs → Effect SweepParts
sweep_step_on fate None rows pairs = refused (None, rows, pairs) Janitor cause.Idle
sweep_step_on fate (Some s) rows pairs = sweep_at s fate rows pairs (sweep_ask s)

abbrev pub sweep_step_asks : Option Sweeping → Option Store
sweep_step_asks None = None
sweep_step_asks (Some s) = store_asked (sweep_ask s)
