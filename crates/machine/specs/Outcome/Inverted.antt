-- Each event comes to one outcome: what the machine leaves and tells is what the outcome says.
use Rattle.std.specs.Prelude.{◌≡◌, ℕ, List, Option}
use Rattle.port_io.specs.declared.weather.Fate.{Fate}
use Rattle.history_book.specs.declared.item.Item.{Item}
use Rattle.machine.specs.declared.event.Event.{Event}
use Rattle.machine.specs.State.{State}
use Rattle.machine.specs.Machine.{stepped, reading_of}
use Rattle.machine.specs.Due.{AreDue}
use Rattle.machine.specs.Fits.{Fits}
use Rattle.machine.specs.Outcome.Outcomes.{Outcome, left_by, told_by_outcome, AcceptsAt}

-- the state and the items are those of an outcome, which accepts a request at the reading that was handed in alone; each refusal
-- among the items says what is the case
abbrev pub ComesAt : (w : State) → Option ℕ → State → List Item → Type 0
ComesAt w handed left items = (o : Outcome w) × (left ≡ left_by w o) × (items ≡ told_by_outcome w o) × AcceptsAt handed o × AreDue w items

-- so it is of every event, in each state whose parts fit together
abbrev pub EventsComeToOutcomes : Type 0
EventsComeToOutcomes = (w : State) (event : Event) (fate : Fate) → Fits w → ComesAt w (reading_of event) (stepped w event fate).state (stepped w event fate).items
