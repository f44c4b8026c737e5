-- All asks of a completion, by its way.
use Rattle.std.specs.Prelude.{ℕ, List}
use Rattle.system_parts.specs.declared.asks.Ask.{Ask}
use Rattle.shadow_cells.specs.declared.Way.{Way}
use Rattle.shadow_cells.specs.declared.Way.TheVariants.{Finish, Undo}
use Rattle.system_parts.specs.Completion.{finish_asks, undo_asks}

abbrev pub all_asks : ℕ → Way → List ℕ → List Ask
all_asks txn (Finish commit) keys = finish_asks txn commit keys
all_asks txn Undo keys = undo_asks txn keys
