-- A node takes the master record, where it has no instance. A fault hides a refusal, and leaves the node without an
-- instance also where the record changed.
use Rattle.std.specs.Prelude.{ℕ, List, [], ◌∷◌, Option, None, Some, Result, Ok, Err}
use Rattle.stamp_base.specs.declared.stores.Store.{Store}
use Rattle.stamp_base.specs.declared.stores.Store.TheVariants.{Master}
use Rattle.stamp_base.specs.SetupNumbers.{SetupNumbers}
use Rattle.port_io.specs.declared.weather.Fate.{Fate}
use Rattle.port_io.specs.Fates.{fated}
use Rattle.history_book.specs.declared.cause.Cause.TheVariants as cause
use Rattle.history_book.specs.declared.item.Actor.TheVariants.{Node}
use Rattle.history_book.specs.declared.item.Item.{Item}
use Rattle.history_book.specs.declared.item.Item.TheVariants.{Take}
use Rattle.system_parts.specs.declared.record.Grant.{Grant}
use Rattle.system_parts.specs.declared.record.TakeRefused.{TakeRefused}
use Rattle.system_parts.specs.declared.record.TakeRefused.TheVariants.{StoreFault, Early, Spent}
use Rattle.system_parts.specs.Record.{Leasing, MasterRecord, take_refused, granted, taken, answered}
use Rattle.system_parts.specs.Instance.{InstanceEntry, instance_new}
use Rattle.machine.specs.Effect.{Effect, done, refused, faulted, kept_items}

-- the record's rules are the setup's
abbrev pub rules_of : SetupNumbers → Leasing
rules_of setup = record { lease = setup.lease; skew = setup.skew; range = setup.range }

-- the instance that a grant makes
abbrev pub instance_of : SetupNumbers → ℕ → Grant → InstanceEntry
instance_of setup node grant = instance_new grant node setup.buckets setup.width setup.slots setup.direct

abbrev pub take_item : ℕ → ℕ → Grant → Item
take_item node reading grant = Take node reading grant.term grant.epoch grant.until grant.ceiling

-- by what the record answered, `master` being what it is now
abbrev pub take_by : SetupNumbers → ℕ → ℕ → MasterRecord → List Item → Result Grant TakeRefused → Effect (Option InstanceEntry × MasterRecord)
take_by setup node reading master kept (Ok grant) = done (Some (instance_of setup node grant), master) (take_item node reading grant ∷ [])
take_by setup node reading master kept (Err StoreFault) = faulted (None, master) (Node node) Master kept
take_by setup node reading master kept (Err (Early at until)) = refused (None, master) (Node node) (cause.Early at until)
take_by setup node reading master kept (Err (Spent ceiling)) = refused (None, master) (Node node) (cause.Spent ceiling)

abbrev pub take_vacant : SetupNumbers → ℕ → ℕ → Fate → MasterRecord → Effect (Option InstanceEntry × MasterRecord)
take_vacant setup node reading fate master =
    let rules : Leasing = rules_of setup in
    let grant : Grant = granted rules master reading in
    let why : Option TakeRefused = take_refused rules master reading in
    take_by setup node reading (fated fate master (taken rules master node reading)) (kept_items fate why (take_item node reading grant ∷ [])) (answered fate StoreFault why grant)

abbrev pub take_on : SetupNumbers → ℕ → ℕ → Fate → Option InstanceEntry → MasterRecord → Effect (Option InstanceEntry × MasterRecord)
take_on setup node reading fate None master = take_vacant setup node reading fate master
take_on setup node reading fate (Some i) master = refused (Some i, master) (Node node) (cause.Holding i.term)

-- the record is asked where the node has no instance
abbrev pub take_asks : Option InstanceEntry → Option Store
take_asks None = Some Master
take_asks (Some i) = None
