-- A node asks for a further range of stamps. The instance keeps a refusal, and its range goes up to the record's new
-- ceiling; a failed call that took effect moves the record alone.
use Rattle.std.specs.Prelude.{ℕ, ◌+◌, List, [], ◌∷◌, Option, None, Some, Result, Ok, Err}
use Rattle.stamp_base.specs.declared.stores.Store.{Store}
use Rattle.stamp_base.specs.declared.stores.Store.TheVariants.{Master}
use Rattle.stamp_base.specs.SetupNumbers.{SetupNumbers}
use Rattle.port_io.specs.declared.weather.Fate.{Fate}
use Rattle.port_io.specs.Fates.{fated}
use Rattle.history_book.specs.declared.cause.Cause.TheVariants as cause
use Rattle.history_book.specs.declared.item.Actor.TheVariants.{Node}
use Rattle.history_book.specs.declared.item.Item.{Item}
use Rattle.history_book.specs.declared.item.Item.TheVariants.{Extend}
use Rattle.system_parts.specs.declared.record.ExtendRefused.{ExtendRefused}
use Rattle.system_parts.specs.declared.record.ExtendRefused.TheVariants.{StoreFault, Replaced, Spent}
use Rattle.system_parts.specs.Record.{Leasing, MasterRecord, extend_refused, extended, answered}
use Rattle.system_parts.specs.Instance.{InstanceEntry}
use Rattle.system_parts.specs.InstanceSteps.{instance_widened, instance_stopped}
use Rattle.machine.specs.Effect.{Effect, done, refused, faulted, kept_items}
use Rattle.machine.specs.Events.Take.{rules_of}

-- by what the record answered, `master` being what it is now
abbrev pub extend_by : ℕ → InstanceEntry → MasterRecord → List Item → Result ℕ ExtendRefused → Effect (Option InstanceEntry × MasterRecord)
extend_by node i master kept (Ok ceiling) = done (Some (instance_widened i ceiling), master) (Extend node i.term ceiling ∷ [])
extend_by node i master kept (Err StoreFault) = faulted (Some i, master) (Node node) Master kept
extend_by node i master kept (Err (Replaced found)) = refused (Some (instance_stopped i (cause.Replaced found)), master) (Node node) (cause.Replaced found)
extend_by node i master kept (Err (Spent ceiling)) = refused (Some (instance_stopped i (cause.Spent ceiling)), master) (Node node) (cause.Spent ceiling)

abbrev pub extend_at : SetupNumbers → ℕ → Fate → InstanceEntry → MasterRecord → Effect (Option InstanceEntry × MasterRecord)
extend_at setup node fate i master =
    let rules : Leasing = rules_of setup in
    let ceiling : ℕ = master.ceiling + rules.range in
    let why : Option ExtendRefused = extend_refused rules master i.term in
    extend_by node i (fated fate master (extended rules master i.term)) (kept_items fate why (Extend node i.term ceiling ∷ [])) (answered fate StoreFault why ceiling)

abbrev pub extend_on : SetupNumbers → ℕ → Fate → Option InstanceEntry → MasterRecord → Effect (Option InstanceEntry × MasterRecord)
extend_on setup node fate None master = refused (None, master) (Node node) (cause.NoOracle node)
extend_on setup node fate (Some i) master = extend_at setup node fate i master

-- the record is asked where the node has an instance
abbrev pub extend_asks : Option InstanceEntry → Option Store
extend_asks None = None
extend_asks (Some i) = Some Master
