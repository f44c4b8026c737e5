-- The places at which actors wait.
use Rattle.std.specs.Prelude.{⊤, ℕ, ◌+◌, ◌<◌}
use Rattle.stamp_base.specs.declared.numbers.TheConstants.NodeNo as nodes
use Rattle.history_book.specs.declared.item.Actor.{Actor}
use Rattle.history_book.specs.declared.item.Actor.TheVariants.{Clock, Janitor, Node, Session}

-- the clock, the janitor, each node and each session has a place of its own
abbrev pub place_of : Actor → ℕ
place_of Clock = 0
place_of Janitor = 1
place_of (Node node) = 2 + node
place_of (Session session) = 2 + nodes.COUNT + session

-- there are no more nodes than so many
abbrev pub NodeIsThere : Actor → Type 0
NodeIsThere (Node node) = node < nodes.COUNT
NodeIsThere _ = ⊤
