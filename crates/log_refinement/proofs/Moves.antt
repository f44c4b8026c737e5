-- One event at a place of a history, and past a session that has asked.
use Rattle.log_refinement.proofs.Names.{ℕ, List, ◌++◌, Fate, Item, Client, State, stepped}
use Rattle.machine.specs.declared.event.Event.{Event}

-- ---- an event at a place of a history
pub record Move : Type 0 where
  pub state : State
  pub history : List Item
  pub event : Event
  pub fate : Fate

abbrev pub items_of : Move → List Item
items_of v = (stepped v.state v.event v.fate).items

-- the place behind it
abbrev pub state_after : Move → State
state_after v = (stepped v.state v.event v.fate).state

abbrev pub history_after : Move → List Item
history_after v = v.history ++ items_of v

-- ---- it, past a session that has asked: the items since the ask, and the client before and behind the event
pub record AskMove : Type 0 where
  pub session : ℕ
  pub move : Move
  pub since : List Item
  pub client : Client
  pub next : Client

abbrev pub since_after : AskMove → List Item
since_after a = a.since ++ items_of a.move
