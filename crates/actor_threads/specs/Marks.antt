-- A small number that tells actors apart.
use Rattle.std.specs.Prelude.{ℕ, ◌+◌}
use Rattle.history_book.specs.declared.item.Actor.{Actor}
use Rattle.history_book.specs.declared.item.Actor.TheVariants.{Clock, Node, Session, Janitor}

abbrev pub mark_of : Actor → ℕ
mark_of Clock = 0
mark_of Janitor = 1
mark_of (Node node) = 2 + node
mark_of (Session session) = 10 + session
