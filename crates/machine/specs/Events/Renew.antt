-- A node renews its lease. The instance keeps a refusal as Replaced.
use Rattle.std.specs.Prelude.{ℕ, List, [], ◌∷◌, Option, None, Some, Result, Ok, Err}
use Rattle.stamp_base.specs.declared.stores.Store.{Store}
use Rattle.stamp_base.specs.declared.stores.Store.TheVariants.{Master}
use Rattle.stamp_base.specs.SetupNumbers.{SetupNumbers}
use Rattle.port_io.specs.declared.weather.Fate.{Fate}
use Rattle.port_io.specs.Fates.{fated}
use Rattle.history_book.specs.declared.cause.Cause.TheVariants as cause
use Rattle.history_book.specs.declared.item.Actor.TheVariants.{Node}
use Rattle.history_book.specs.declared.item.Item.{Item}
use Rattle.history_book.specs.declared.item.Item.TheVariants.{Renew}
use Rattle.system_parts.specs.declared.record.RenewRefused.{RenewRefused}
use Rattle.system_parts.specs.declared.record.RenewRefused.TheVariants.{StoreFault, Replaced}
use Rattle.system_parts.specs.Record.{Leasing, MasterRecord, renew_refused, renewed_until, renewed, answered}
use Rattle.system_parts.specs.Instance.{InstanceEntry}
use Rattle.system_parts.specs.InstanceSteps.{instance_renewed, instance_stopped}
use Rattle.machine.specs.Effect.{Effect, done, refused, faulted, kept_items}
use Rattle.machine.specs.Events.Take.{rules_of}

-- by what the record answered, `master` being what it is now
abbrev pub renew_by : ℕ → ℕ → InstanceEntry → MasterRecord → List Item → Result ℕ RenewRefused → Effect (Option InstanceEntry × MasterRecord)
renew_by node reading i master kept (Ok until) = done (Some (instance_renewed i until), master) (Renew node reading i.term until ∷ [])
renew_by node reading i master kept (Err StoreFault) = faulted (Some i, master) (Node node) Master kept
renew_by node reading i master kept (Err (Replaced found)) = refused (Some (instance_stopped i (cause.Replaced found)), master) (Node node) (cause.Replaced found)

abbrev pub renew_at : SetupNumbers → ℕ → ℕ → Fate → InstanceEntry → MasterRecord → Effect (Option InstanceEntry × MasterRecord)
renew_at setup node reading fate i master =
    let rules : Leasing = rules_of setup in
    let until : ℕ = renewed_until rules master reading in
    let why : Option RenewRefused = renew_refused master i.term in
    renew_by node reading i (fated fate master (renewed rules master i.term reading)) (kept_items fate why (Renew node reading i.term until ∷ [])) (answered fate StoreFault why until)

abbrev pub renew_on : SetupNumbers → ℕ → ℕ → Fate → Option InstanceEntry → MasterRecord → Effect (Option InstanceEntry × MasterRecord)
renew_on setup node reading fate None master = refused (None, master) (Node node) (cause.NoOracle node)
renew_on setup node reading fate (Some i) master = renew_at setup node reading fate i master

-- the record is asked where the node has an instance
abbrev pub renew_asks : Option InstanceEntry → Option Store
renew_asks None = None
renew_asks (Some i) = Some Master
