-- A session as its callers see it.
use Rattle.std.specs.Prelude.{ℕ, Option, None, Some}
use Rattle.system_parts.specs.SessionSteps.{SessionEntry, session_new}
use Rattle.system_parts.specs.Cache.{Cache, cache_new}

-- its entry, and what it remembers of other transactions
pub record SessionParts : Type 0 where
  pub entry : SessionEntry
  pub cache : Cache

-- before its first transaction
abbrev pub opened_with : ℕ → SessionParts
opened_with room = record { entry = session_new; cache = cache_new room }

-- without a memory there is no room
abbrev pub cache_of : Option Cache → Cache
cache_of None = cache_new 0
cache_of (Some cache) = cache
