-- All that ties a state of the machine to its history, with the isolation of the history.
use Rattle.std.specs.Prelude.{List}
use Rattle.stamp_base.specs.SetupNumbers.{AreInRange}
use Rattle.history_book.specs.Isolation.{Isolated}
use Rattle.history_book.specs.declared.item.Item.{Item}
use Rattle.machine.specs.State.{State}
use Rattle.isolation_laws.specs.Numbers.{NumberFacts}
use Rattle.isolation_laws.specs.Requests.{RequestFacts}
use Rattle.isolation_laws.specs.Memory.{MemoryFacts}
use Rattle.isolation_laws.specs.Cells.{CellFacts}
use Rattle.isolation_laws.specs.UnderWay.{UnderWayFacts}
use Rattle.isolation_laws.specs.Begins.{BeginFacts}
use Rattle.isolation_laws.specs.Reads.{ReadFacts}
use Rattle.isolation_laws.specs.Known.{KnownFacts}
use Rattle.isolation_laws.specs.Bare.{AreOwned}

pub record IsolationInvariant (w : State) (h : List Item) : Type 0 where
  pub in_range : AreInRange w.setup
  pub numbers : NumberFacts w.setup w.seen w.nodes w.master h
  pub requests : RequestFacts w.setup w.nodes w.clients h
  pub memory : MemoryFacts w.setup w.nodes h
  pub cells : CellFacts w.clients w.nodes w.rows w.pairs h
  pub under_way : UnderWayFacts w.clients w.sweep w.rows w.pairs h
  pub begins : BeginFacts w.setup w.clients w.nodes h
  pub reads : ReadFacts w.setup w.clients w.nodes w.rows w.pairs h
  pub known : KnownFacts w.clients w.nodes w.pairs h
  pub owned : AreOwned w.clients w.rows h
  pub isolated : Isolated h
