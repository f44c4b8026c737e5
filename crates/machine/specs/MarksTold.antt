-- Marks of the commit table are told.
use Rattle.std.specs.Prelude.{ℕ, ◌⊎◌, List}
use Rattle.history_book.specs.Members.{◌∈◌}
use Rattle.history_book.specs.declared.item.Actor.{Actor}
use Rattle.history_book.specs.declared.item.Item.{Item}
use Rattle.history_book.specs.declared.item.Item.TheVariants as item
use Rattle.system_parts.specs.Pairs.{Pairs}
use Rattle.machine.specs.FoundAt.{Marked}

-- each mark of the table was there, or is told
abbrev pub MarksTold : Pairs → Pairs → List Item → Type 0
MarksTold old new items = (t : ℕ) → Marked new t → Marked old t ⊎ ((actor : Actor) × (item.Mark actor t ∈ items))
