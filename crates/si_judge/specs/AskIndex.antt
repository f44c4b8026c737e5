-- What an index of the asks for starts holds.
use Rattle.std.specs.Prelude.{◌≡◌, ℕ, List, length, take, vec_len}
use Rattle.history_book.specs.declared.item.Item.{Item}
use Rattle.si_judge.specs.declared.ask_index.Asked.{Asked}
use Rattle.si_judge.specs.AskStarts.{AreLastAsks, HasStarts}

-- the items below the place n are noted
pub record IsNoted (h : List Item) (n : ℕ) (asked : Asked) : Type 0 where
  pub each : vec_len asked.starts ≡ length h
  pub asks : AreLastAsks (take n h) asked.asks
  pub starts : HasStarts h n asked.starts.items
