-- The item whose words the bytes may be.
use Rattle.std.specs.Prelude.{ℕ, List, Option}
use Rattle.std.specs.Option.{option_or}
use Rattle.history_book.specs.declared.item.Item.{Item}
use Rattle.history_reading.specs.ReadWords.{first_word, after_word}
use Rattle.history_reading.specs.ReadNodes.{node_kind_at}
use Rattle.history_reading.specs.ReadRequests.{request_kind_at}
use Rattle.history_reading.specs.ReadSessions.{session_kind_at}
use Rattle.history_reading.specs.ReadActors.{actor_kind_at}

abbrev pub item_at : List ℕ → Option Item
item_at bs = option_or (node_kind_at (first_word bs) (after_word bs)) (option_or (request_kind_at (first_word bs) (after_word bs)) (option_or (session_kind_at (first_word bs) (after_word bs)) (actor_kind_at (first_word bs) (after_word bs))))
