-- Items that no fact reads but those of their own.
use Rattle.std.specs.Prelude.{Bool, true, false, IsTrue, List, All}
use Rattle.history_book.specs.declared.item.StoreStep.{StoreStep}
use Rattle.history_book.specs.declared.item.StoreStep.TheVariants.{Keys}
use Rattle.history_book.specs.declared.item.Item.{Item}
use Rattle.history_book.specs.declared.item.Item.TheVariants as item

abbrev pub is_quiet_step : StoreStep → Bool
is_quiet_step (Keys txn count) = false
is_quiet_step _ = true

-- neither an ask for a start, a draw, a begin, a write, a read, a placed commit, nor a listing of keys
abbrev pub is_quiet : Item → Bool
is_quiet (item.AskBegin session node) = false
is_quiet (item.Draw session node term start commit) = false
is_quiet (item.Begin session start) = false
is_quiet (item.Write session start key value) = false
is_quiet (item.Read session start key answer) = false
is_quiet (item.Placed start commit) = false
is_quiet (item.Step actor what) = is_quiet_step what
is_quiet _ = true

abbrev pub Quiet : Item → Type 0
Quiet x = IsTrue (is_quiet x)

abbrev pub AllQuiet : List Item → Type 0
AllQuiet items = All Quiet items
