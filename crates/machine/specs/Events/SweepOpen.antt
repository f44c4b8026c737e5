-- The janitor begins to sweep a transaction, by the epoch that a node's instance has now. It appends nothing.
use Rattle.std.specs.Prelude.{ℕ, [], Option, None, Some}
use Rattle.history_book.specs.declared.cause.Cause.TheVariants as cause
use Rattle.history_book.specs.declared.item.Actor.TheVariants.{Janitor}
use Rattle.system_parts.specs.Sweep.{Sweeping, sweep_open}
use Rattle.system_parts.specs.Instance.{InstanceEntry}
use Rattle.machine.specs.Effect.{Effect, done, refused}

abbrev pub sweep_open_at : ℕ → ℕ → Option InstanceEntry → Effect (Option Sweeping)
sweep_open_at node txn None = refused None Janitor (cause.NoOracle node)
sweep_open_at node txn (Some i) = done (Some (sweep_open txn i.epoch)) []

abbrev pub sweep_open_on : ℕ → ℕ → Option InstanceEntry → Option Sweeping → Effect (Option Sweeping)
sweep_open_on node txn post (Some s) = refused (Some s) Janitor cause.Busy
sweep_open_on node txn post None = sweep_open_at node txn post
