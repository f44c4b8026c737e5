-- Sessions that there are.
use Rattle.std.specs.Prelude.{◌<◌}
use Rattle.history_book.specs.declared.item.Actor.{Actor}
use Rattle.history_book.specs.declared.item.Actor.TheVariants.{Session}

-- the actor is no session, or is one that there is
abbrev pub SessionIsThere : Actor → Type 0
SessionIsThere (Session session) = session < 16
SessionIsThere _ = Unit {0}
