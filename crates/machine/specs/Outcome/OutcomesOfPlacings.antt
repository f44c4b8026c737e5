-- What an event comes to for a session that is to place its commit.
use Rattle.std.specs.Prelude.{[], ◌≡◌, ℕ, List, ◌∷◌, None, Some, ◌⊎◌, slice_set}
use Rattle.stamp_base.specs.declared.stores.Mark.TheVariants.{Committed as CommittedMark}
use Rattle.stamp_base.specs.declared.stores.Mark.{Mark}
use Rattle.stamp_base.specs.declared.stores.Store.TheVariants.{Table}
use Rattle.history_book.specs.declared.item.Actor.TheVariants.{Session}
use Rattle.history_book.specs.declared.item.StoreStep.TheVariants.{PutFound}
use Rattle.history_book.specs.declared.item.Item.{Item}
use Rattle.history_book.specs.declared.item.Item.TheVariants as item
use Rattle.system_parts.specs.Pairs.{mark_of, put_pair}
use Rattle.system_parts.specs.declared.session.State.TheVariants as phase
use Rattle.system_parts.specs.declared.instance.Settled.{Settled}
use Rattle.system_parts.specs.declared.instance.Settled.TheVariants as how
use Rattle.machine.specs.State.{Client, State}
use Rattle.machine.specs.FoundAt.{ClientAt}
use Rattle.machine.specs.Quiet.{AllQuiet}
use Rattle.machine.specs.Outcome.OutcomesOfStamps.{answered_client, answered_item}

pub record AtPlacing (w : State) : Type 0 where
  pub session : ℕ
  pub start : ℕ
  pub commit : ℕ
  pub c : Client
  pub client_at : ClientAt w.clients session c
  pub placing : c.entry.state ≡ phase.Placing
  pub start_is : c.entry.start ≡ Some start
  pub commit_is : c.entry.commit ≡ Some commit

-- the placing has ended so for its session
abbrev pub own_clients : (w : State) → AtPlacing w → Settled → List Client
own_clients w it by = slice_set w.clients it.session (answered_client by it.c it.commit)

-- what was found in its place, or the fault, and then what its session is told
abbrev pub own_told : Settled → ℕ → ℕ → ℕ → List Item
own_told how.Placed session start commit = answered_item how.Placed session start commit ∷ []
own_told how.Invalid session start commit = item.Step (Session session) (PutFound start) ∷ answered_item how.Invalid session start commit ∷ []
own_told how.Faulted session start commit = item.Fault (Session session) Table ∷ answered_item how.Faulted session start commit ∷ []

-- it was placed; where the call failed all the same, the session does not know
pub record OwnPlaced (w : State) : Type 0 where
  pub it : AtPlacing w
  pub free : mark_of w.pairs it.start ≡ None
  pub by : Settled
  pub by_is : (by ≡ how.Placed) ⊎ (by ≡ how.Faulted)
  pub items : List Item
  pub tells : items ≡ own_told by it.session it.start it.commit
  pub quiet : AllQuiet items

abbrev pub own_placed_state : (w : State) → OwnPlaced w → State
own_placed_state w k = record w { clients = own_clients w k.it k.by; pairs = put_pair w.pairs k.it.start (CommittedMark k.it.commit) }

abbrev pub own_placed_items : (w : State) → OwnPlaced w → List Item
own_placed_items w k = item.Placed k.it.start k.it.commit ∷ k.items

-- it was not placed, and never will be
pub record OwnNotPlaced (w : State) : Type 0 where
  pub it : AtPlacing w
  pub by : Settled
  pub by_is : (by ≡ how.Invalid) ⊎ (by ≡ how.Faulted)
  pub found : by ≡ how.Invalid → (mark : Mark) × (mark_of w.pairs it.start ≡ Some mark)
  pub items : List Item
  pub tells : items ≡ own_told by it.session it.start it.commit
  pub quiet : AllQuiet items

abbrev pub own_not_placed_state : (w : State) → OwnNotPlaced w → State
own_not_placed_state w k = record w { clients = own_clients w k.it k.by }
