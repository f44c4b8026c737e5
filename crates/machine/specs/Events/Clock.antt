-- The clock ticks, and actors note their part in the script. Neither touches anything.
use Rattle.std.specs.Prelude.{ℕ, List, [], ◌∷◌}
use Rattle.history_book.specs.declared.item.Actor.{Actor}
use Rattle.history_book.specs.declared.item.Note.{Note as ActorNote}
use Rattle.history_book.specs.declared.item.Item.{Item}
use Rattle.history_book.specs.declared.item.Item.TheVariants.{Tick, Note}

abbrev pub tick_items : ℕ → List Item
tick_items to = Tick to ∷ []

abbrev pub note_items : Actor → ActorNote → List Item
note_items actor note = Note actor note ∷ []
