-- What an event makes of the parts that it touches.
use Rattle.std.specs.Prelude.{List, [], ◌∷◌, ◌++◌, Bool, if◌then◌else◌, Option, None, Some}
use Rattle.stamp_base.specs.declared.stores.Store.{Store}
use Rattle.port_io.specs.declared.weather.Fate.{Fate}
use Rattle.port_io.specs.declared.weather.Fate.TheVariants.{FailsApplied}
use Rattle.history_book.specs.declared.cause.Cause.{Cause}
use Rattle.history_book.specs.declared.item.Actor.{Actor}
use Rattle.history_book.specs.declared.item.Item.{Item}
use Rattle.history_book.specs.declared.item.Item.TheVariants.{Refused, Fault}

-- how an event stopped short
pub data Stop : Type 0 where
  Refuses : Cause → Stop
  Faults : Store → Stop

-- what an event leaves of its parts, the items that it appends, and how it stopped, if it did
pub record Effect (P : Type 0) : Type 0 where
  pub parts : P
  pub items : List Item
  pub stop : Option Stop

abbrev pub done : {P : Type 0} → P → List Item → Effect P
done parts items = record { parts = parts; items = items; stop = None }

abbrev pub refused : {P : Type 0} → P → Actor → Cause → Effect P
refused parts actor cause = record { parts = parts; items = Refused actor cause ∷ []; stop = Some (Refuses cause) }

-- a refusal that a request is told once: a repeated one is answered, and appends nothing
abbrev pub refused_once : {P : Type 0} → Bool → P → Actor → Cause → Effect P
refused_once told parts actor cause = record { parts = parts; items = if told then [] else Refused actor cause ∷ []; stop = Some (Refuses cause) }

-- a store call failed; what took effect all the same stands before the fault
abbrev pub faulted : {P : Type 0} → P → Actor → Store → List Item → Effect P
faulted parts actor store effects = record { parts = parts; items = effects ++ Fault actor store ∷ []; stop = Some (Faults store) }

-- the items of a change that a failed call made all the same; one that would have been refused makes none
abbrev pub kept_items : {E : Type 0} → Fate → Option E → List Item → List Item
kept_items FailsApplied None items = items
kept_items _ _ items = []
