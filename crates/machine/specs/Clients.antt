-- What becomes of a client when its transaction or its request ends, or goes on.
use Rattle.std.specs.Prelude.{ℕ, Bool, true, false, List, [], ◌∷◌, Option, None, Some}
use Rattle.system_parts.specs.declared.session.State as state
use Rattle.system_parts.specs.SessionSteps.{session_begun, session_asked, session_freed, session_aborted, session_handed, session_committed, session_opened, session_vanished}
use Rattle.system_parts.specs.Cache.{cache_new}
use Rattle.system_parts.specs.Completion.{finish_asks, undo_asks}
use Rattle.system_parts.specs.declared.instance.Request.{Request}
use Rattle.system_parts.specs.declared.instance.Request.TheVariants.{Begin, Commit}
use Rattle.machine.specs.State.{UnderWay, Nothing, Reads, Completes, Client}

-- a read is under way
abbrev pub is_reading_by : UnderWay → Bool
is_reading_by (Reads r) = true
is_reading_by _ = false

abbrev pub is_reading : Client → Bool
is_reading c = is_reading_by c.under_way

-- each cell of the transaction is to be erased
abbrev pub undo_of : Option ℕ → List ℕ → UnderWay
undo_of (Some start) (key ∷ keys) = Completes (undo_asks start (key ∷ keys))
undo_of _ _ = Nothing

-- each cell is to get its shadow, and then the record goes
abbrev pub finish_of : Option ℕ → ℕ → List ℕ → UnderWay
finish_of None commit keys = Nothing
finish_of (Some start) commit keys = Completes (finish_asks start commit keys)

-- nothing is under way, and no shadow is offered; what else a client keeps stays
abbrev pub emptied : Client → Client
emptied c = record c { under_way = Nothing; heal = None }

-- a new transaction has read nothing
abbrev pub client_begun : Client → ℕ → ℕ → Client
client_begun c start epoch = record (emptied c) { entry = session_begun c.entry start epoch; reads = [] }

abbrev pub client_asked : Client → Client
client_asked c = record (emptied c) { entry = session_asked c.entry }

abbrev pub client_freed : Client → Client
client_freed c = record (emptied c) { entry = session_freed c.entry }

-- the transaction ends without a commit
abbrev pub client_aborted : Client → Client
client_aborted c = record (emptied c) { entry = session_aborted c.entry; under_way = undo_of c.entry.start c.entry.keys }

-- it is to place its commit
abbrev pub client_handed : Client → ℕ → Client
client_handed c commit = record (emptied c) { entry = session_handed c.entry commit }

-- the transaction has its commit
abbrev pub client_committed : Client → ℕ → Client
client_committed c commit = record (emptied c) { entry = session_committed c.entry commit; under_way = finish_of c.entry.start commit c.entry.keys }

-- it is not known whether the commit was placed
abbrev pub client_opened : Client → Client
client_opened c = record (emptied c) { entry = session_opened c.entry }

-- what it remembered goes with it
abbrev pub client_vanished : Client → Client
client_vanished c = record (emptied c) { entry = session_vanished c.entry; cache = cache_new c.cache.room }

-- nobody hears an answer to a session that has vanished
abbrev pub unless_gone_by : state.State → Client → Client → Client
unless_gone_by state.TheVariants.Gone old new = old
unless_gone_by _ old new = new

abbrev pub unless_gone : Client → Client → Client
unless_gone old new = unless_gone_by old.entry.state old new

-- a refusal has ended the request: a begin frees its session, and what a commit wrote is undone
abbrev pub after_refusal : Request → Client → Client
after_refusal (Begin session) c = unless_gone c (client_freed c)
after_refusal (Commit session start keys) c = unless_gone c (client_aborted c)
