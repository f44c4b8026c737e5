-- That own writes stand, after every event: the cell of an open transaction's write is gone only where a sweep has erased it.
use Rattle.std.specs.Prelude.{◌≡◌, ℕ, List, [], ◌++◌, None}
use Rattle.stamp_base.specs.SetupNumbers.{SetupNumbers, AreInRange}
use Rattle.port_io.specs.declared.weather.Fate.{Fate}
use Rattle.history_book.specs.Isolation.{Wrote}
use Rattle.history_book.specs.declared.item.Item.{Item}
use Rattle.system_parts.specs.KeyRead.{Reading}
use Rattle.system_parts.specs.Rows.{looked}
use Rattle.machine.specs.declared.event.Event.{Event}
use Rattle.machine.specs.State.{Reads, Client, State, opening}
use Rattle.machine.specs.Machine.{Move, Steady, stepped, history_after}
use Rattle.isolation_laws.specs.Words.{ClientAt, OpenAt}
use Rattle.isolation_laws.specs.Sound.{ReachedInvariant}
use Rattle.service_rules.specs.OwnWrites.{ErasedSince, OwnWritesStand}

-- the state w is reached with the history h
pub record OwnInvariant (w : State) (h : List Item) : Type 0 where
  -- where an open transaction wrote and has no cell, a sweep has erased it
  pub cells : (s t e k : ℕ) (own : List ℕ) → OpenAt w.clients s t e → Wrote h t k own → looked w.rows k t ≡ None → ErasedSince h t k
  -- and so it is where a read of the key is under way, since one that finds the own cell is answered at once
  pub reads : (s : ℕ) (c : Client) (r : Reading) (own : List ℕ) → ClientAt w.clients s c → c.under_way ≡ Reads r → Wrote h r.start r.key own → ErasedSince h r.start r.key
  pub stands : OwnWritesStand h

-- before the first event
abbrev pub OwnAtFirst : Type 0
OwnAtFirst = (setup : SetupNumbers) → OwnInvariant (opening setup) []

-- an event keeps it so in every state that is reached
abbrev pub EventsKeepOwn : Type 0
EventsKeepOwn = (w : State) (h : List Item) (e : Event) (fate : Fate) → ReachedInvariant w h → OwnInvariant w h → OwnInvariant (stepped w e fate).state (h ++ (stepped w e fate).items)

-- in every history of the machine
abbrev pub OwnAlways : Type 0
OwnAlways = (setup : SetupNumbers) (moves : List Move) → AreInRange setup → Steady setup moves → OwnWritesStand (history_after setup moves)
