-- All that the history shows of the state, so that refusals can be told by it. There are 16 clients, one for each session.
use Rattle.std.specs.Prelude.{◌≡◌, List, length}
use Rattle.history_book.specs.declared.item.Item.{Item}
use Rattle.machine.specs.State.{State}
use Rattle.cause_rules.specs.Explained.{Explained}
use Rattle.isolation_laws.specs.Sound.{ReachedInvariant}
use Rattle.cause_laws.specs.Requests.{AreAsked, AreFaulted, ArePutByNodes, ArePlacingAsked, AreOpenAsks}
use Rattle.cause_laws.specs.Reads.{AreReadsShown}
use Rattle.cause_laws.specs.Nodes.{AreTaken, AreVacant, AreShownStops, AreLasts}
use Rattle.cause_laws.specs.Stores.{IsRecordShown, AreMarked, AreGone}

pub record ShownInvariant (w : State) (h : List Item) : Type 0 where
  pub sixteen : length w.clients ≡ 16
  pub asked : AreAsked w.nodes h
  pub faulted : AreFaulted w.nodes h
  pub put : ArePutByNodes w.setup w.nodes
  pub placing : ArePlacingAsked w.clients h
  pub reads : AreReadsShown w.clients h
  pub open_asks : AreOpenAsks w.setup w.nodes h
  pub taken : AreTaken w.nodes h
  pub vacant : AreVacant w.nodes h
  pub stops : AreShownStops w.setup w.nodes h
  pub lasts : AreLasts w.nodes h
  pub master : IsRecordShown w.master h
  pub marked : AreMarked w.pairs h
  pub gone : AreGone w.clients h

-- the state w is reached with the history h: the facts of isolation hold, the history shows the state, and each of its
-- refusals is shown
pub record ExplainedInvariant (w : State) (h : List Item) : Type 0 where
  pub stands : ReachedInvariant w h
  pub shows : ShownInvariant w h
  pub explained : Explained w.setup h
