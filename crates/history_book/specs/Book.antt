-- What a book holds.
use Rattle.std.specs.Prelude.{ℕ, List}
use Rattle.history_book.specs.declared.item.Item.{Item}

-- the items so far, how many more the event under way can append, and for how many more room is reserved for requests
pub record BookContent : Type 0 where
  pub items : List Item
  pub room : ℕ
  pub spare : ℕ
