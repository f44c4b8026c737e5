-- What ties state and history, with what the events themselves need of a state.
use Rattle.std.specs.Prelude.{List}
use Rattle.history_book.specs.declared.item.Item.{Item}
use Rattle.machine.specs.State.{State}
use Rattle.machine.specs.Fits.{AreStops, SweepAsks}
use Rattle.isolation_laws.specs.IsolationInvariant.{IsolationInvariant}

-- refusals that are kept are those of the master record, and an open sweep asks something
pub record Sound (w : State) : Type 0 where
  pub stops : AreStops w.nodes
  pub sweeps : SweepAsks w.sweep

-- the state w is reached with the history h: all facts hold
pub record ReachedInvariant (w : State) (h : List Item) : Type 0 where
  pub holds : IsolationInvariant w h
  pub sound : Sound w
