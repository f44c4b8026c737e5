-- What an event comes to for the janitor's sweep.
use Rattle.std.specs.Prelude.{[], ◌≡◌, ℕ, Bool, if◌then◌else◌, List, ◌∷◌, None, Some}
use Rattle.history_book.specs.declared.item.Actor.TheVariants.{Janitor}
use Rattle.history_book.specs.declared.item.StoreStep.TheVariants.{Keys as KeysStep}
use Rattle.history_book.specs.declared.item.Item.{Item}
use Rattle.history_book.specs.declared.item.Item.TheVariants as item
use Rattle.system_parts.specs.Rows.{keys_of_version}
use Rattle.system_parts.specs.declared.asks.Ask.{Ask}
use Rattle.system_parts.specs.declared.asks.Ask.TheVariants.{Keys as KeysAsk}
use Rattle.system_parts.specs.Sweep.{Sweeping, sweep_open, sweep_ask, sweep_told, sweep_listed}
use Rattle.machine.specs.State.{State}
use Rattle.machine.specs.StoreSteps.{rows_after, pairs_after, told_by}
use Rattle.machine.specs.Events.SweepStep.{sweep_left}
use Rattle.machine.specs.Quiet.{AllQuiet}
use Rattle.machine.specs.Plain.{AllSilent}
use Rattle.machine.specs.MarksTold.{MarksTold}

-- ---- sweeps
pub record SweepOpened (w : State) : Type 0 where
  pub txn : ℕ
  pub epoch : ℕ

abbrev pub sweep_opened_state : (w : State) → SweepOpened w → State
sweep_opened_state w k = record w { sweep = Some (sweep_open k.txn k.epoch) }

-- a step of the sweep but for the listing of keys
pub record SweptOne (w : State) : Type 0 where
  pub s : Sweeping
  pub asked : Ask
  pub is_open : w.sweep ≡ Some s
  pub asks : sweep_ask s ≡ Some asked
  pub no_list : (txn : ℕ) → asked ≡ KeysAsk txn → ⊥
  pub items : List Item
  pub marks : MarksTold w.pairs (pairs_after asked w.pairs) items
  pub quiet : AllQuiet items
  pub silent : AllSilent items

abbrev pub swept_state : (w : State) → SweptOne w → State
swept_state w k = record w {
  sweep = sweep_left (sweep_told k.s (told_by k.asked w.rows w.pairs));
  rows = rows_after k.asked w.rows;
  pairs = pairs_after k.asked w.pairs;
}

pub record SweepListed (w : State) : Type 0 where
  pub s : Sweeping
  pub txn : ℕ
  pub count : ℕ
  pub is_open : w.sweep ≡ Some s
  pub asks : sweep_ask s ≡ Some (KeysAsk txn)

abbrev pub sweep_listed_state : (w : State) → SweepListed w → State
sweep_listed_state w k = record w { sweep = sweep_left (sweep_listed k.s (keys_of_version w.rows k.txn)) }

abbrev pub sweep_listed_items : (w : State) → SweepListed w → List Item
sweep_listed_items w k = item.Step Janitor (KeysStep k.txn k.count) ∷ []

-- the sweep is over by a failure, with effect or without
pub record SweepFailed (w : State) : Type 0 where
  pub s : Sweeping
  pub asked : Ask
  pub is_open : w.sweep ≡ Some s
  pub asks : sweep_ask s ≡ Some asked
  pub applied : Bool
  pub items : List Item
  pub marks : MarksTold w.pairs (if applied then pairs_after asked w.pairs else w.pairs) items
  pub quiet : AllQuiet items
  pub silent : AllSilent items

abbrev pub sweep_failed_state : (w : State) → SweepFailed w → State
sweep_failed_state w k = record w {
  sweep = None;
  rows = if k.applied then rows_after k.asked w.rows else w.rows;
  pairs = if k.applied then pairs_after k.asked w.pairs else w.pairs;
}
