-- An archive as contracts see it, and its answers to readers.
use Rattle.std.specs.Prelude.{ℕ, List, Option, None, Some}
use Rattle.history_book.specs.declared.item.Found.{Found}
use Rattle.system_parts.specs.Rows.{Row}

-- the rows that were kept, the water, and how many rows there were before
pub record SeenArchive : Type 0 where
  pub rows : List Row
  pub water : ℕ
  pub before : ℕ

-- what was found, as a version and its value
abbrev pub answer_of : Option Found → Option (ℕ × List ℕ)
answer_of None = None
answer_of (Some found) = Some (found.from, found.value)
