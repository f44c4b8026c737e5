-- What a failed call made all the same is what the machine keeps of it.
use Rattle.std.proofs.Common.{◌≡◌, refl, [], ◌∷◌, Option, None, Some}
use Rattle.port_io.specs.declared.weather.Fate.{Fate}
use Rattle.port_io.specs.declared.weather.Fate.TheVariants.{Works, FailsUnchanged, FailsApplied}
use Rattle.history_book.specs.declared.item.Item.{Item}
use Rattle.system_parts.specs.Record.{unless_some}
use Rattle.machine.specs.Effect.{kept_items}
use Rattle.event_parts.specs.Kept.{kept_if}

pub kept_as_answered : {T E : Type 0} (fate : Fate) (why : Option E) (answer : T) (item : T → Item) → kept_if fate (unless_some why answer) item ≡ kept_items fate why (item answer ∷ [])
kept_as_answered Works None answer item = refl
kept_as_answered Works (Some why) answer item = refl
kept_as_answered FailsUnchanged None answer item = refl
kept_as_answered FailsUnchanged (Some why) answer item = refl
kept_as_answered FailsApplied None answer item = refl
kept_as_answered FailsApplied (Some why) answer item = refl
