-- How a call stands to the machine's effect: what it leaves, appends and answers, and what it asks of the weather.
use Rattle.std.specs.Prelude.{◌≡◌, ℕ, List, ◌++◌, Option, None, Some, Result, Ok, Err}
use Rattle.stamp_base.specs.declared.stores.Store.{Store}
use Rattle.port_io.specs.declared.weather.Fate.{Fate}
use Rattle.port_io.specs.declared.weather.Fate.TheVariants.{Works}
use Rattle.history_book.specs.declared.item.Item.{Item}
use Rattle.system_parts.specs.StoreCalls.{AsksOnce}
use Rattle.machine.specs.Effect.{Effect, Stop, Refuses, Faults}
use Rattle.event_parts.specs.declared.stopped.Stopped.{Stopped}
use Rattle.event_parts.specs.declared.stopped.Stopped.TheVariants.{Refused, StoreFault, NoMemory}

-- the parts are what the effect leaves of them, its items were appended, and it stopped so
pub record Leaves {P : Type 0} (effect : Effect P) (now : P) (before after : List Item) (end : Option Stop) : Type 0 where
  pub parts : now ≡ effect.parts
  pub items : after ≡ before ++ effect.items
  pub stop : effect.stop ≡ end

-- the call made the event, as far as it came; where memory was refused, parts and history are as before
abbrev pub Makes : {P : Type 0} → Effect P → P → P → List Item → List Item → Result Unit Stopped → Type 0
Makes effect old now before after (Ok _) = Leaves effect now before after None
Makes effect old now before after (Err (Refused why)) = Leaves effect now before after (Some (Refuses why))
Makes effect old now before after (Err (StoreFault store)) = Leaves effect now before after (Some (Faults store))
Makes effect old now before after (Err NoMemory) = (now ≡ old) × (after ≡ before)

-- how a call answers that stopped so, or did not stop
abbrev pub ended : Option Stop → Result Unit Stopped
ended None = Ok tt
ended (Some (Refuses why)) = Err (Refused why)
ended (Some (Faults store)) = Err (StoreFault store)

-- the parts of what touches none
abbrev pub no_parts : Unit {0}
no_parts = tt

-- ---- the weather
-- no call was made: all that is ahead stays, and so does the count of faults
pub record AsksNone (before now : Store → ℕ → Fate) (faults_before faults_now : ℕ) : Type 0 where
  pub kept : (store : Store) (n : ℕ) → now store n ≡ before store n
  pub counted : faults_now ≡ faults_before

-- the weather moved on by a call on this store alone, or stood
abbrev pub AsksOf : Option Store → (Store → ℕ → Fate) → (Store → ℕ → Fate) → ℕ → ℕ → Type 0
AsksOf None before now faults_before faults_now = AsksNone before now faults_before faults_now
AsksOf (Some store) before now faults_before faults_now = AsksOnce store before now faults_before faults_now

-- the call asked as the event does; where memory was refused it came to no store call
abbrev pub Asks : Result Unit Stopped → Option Store → (Store → ℕ → Fate) → (Store → ℕ → Fate) → ℕ → ℕ → Type 0
Asks (Ok _) asks before now faults_before faults_now = AsksOf asks before now faults_before faults_now
Asks (Err (Refused why)) asks before now faults_before faults_now = AsksOf asks before now faults_before faults_now
Asks (Err (StoreFault store)) asks before now faults_before faults_now = AsksOf asks before now faults_before faults_now
Asks (Err NoMemory) asks before now faults_before faults_now = AsksNone before now faults_before faults_now

-- the fate that the weather has ahead for the store that is asked; where none is, any would do
abbrev pub fate_ahead : Option Store → (Store → ℕ → Fate) → Fate
fate_ahead None ahead = Works
fate_ahead (Some store) ahead = ahead store 0
