-- What texts tell of items.
use Rattle.std.specs.Prelude.{◌≡◌}
use Rattle.history_book.specs.declared.item.Item.{Item}
use Rattle.history_text.specs.Text.{text_of}
use Rattle.history_text.specs.Fits.{FitsItem}

-- no two items have one text
abbrev pub TextsDiffer : Type 0
TextsDiffer = (one other : Item) → FitsItem one → FitsItem other → text_of one ≡ text_of other → one ≡ other
