-- The change that a failed call made all the same.
use Rattle.std.specs.Prelude.{ℕ, List, [], ◌∷◌, Option, None, Some, Result, Ok, Err}
use Rattle.stamp_base.specs.SetupNumbers.{SetupNumbers}
use Rattle.stamp_base.specs.declared.stores.Mark.{Mark}
use Rattle.port_io.specs.declared.weather.Fate.{Fate}
use Rattle.port_io.specs.declared.weather.Fate.TheVariants.{FailsApplied}
use Rattle.history_book.specs.declared.item.Item.{Item}
use Rattle.history_book.specs.declared.item.Item.TheVariants.{Placed}
use Rattle.system_parts.specs.declared.record.Grant.{Grant}
use Rattle.system_parts.specs.declared.record.TakeRefused.{TakeRefused}
use Rattle.system_parts.specs.Instance.{InstanceEntry}
use Rattle.machine.specs.Events.Take.{instance_of}

-- the item of a change, where it was made
abbrev pub made_items : Option Item → List Item
made_items None = []
made_items (Some item) = item ∷ []

-- the item of what the record would have answered, where a failed call took effect
abbrev pub kept_if : {T E : Type 0} → Fate → Result T E → (T → Item) → List Item
kept_if FailsApplied (Ok answer) item = item answer ∷ []
kept_if _ _ item = []

-- the item of a record that stands in the commit table and did not before
abbrev pub placed_kept : Option Mark → Option Mark → ℕ → ℕ → List Item
placed_kept None (Some mark) start commit = Placed start commit ∷ []
placed_kept before now start commit = []

-- the instance of a grant
abbrev pub opened_by : SetupNumbers → ℕ → Result Grant TakeRefused → Option InstanceEntry
opened_by setup node (Ok grant) = Some (instance_of setup node grant)
opened_by setup node (Err why) = None
