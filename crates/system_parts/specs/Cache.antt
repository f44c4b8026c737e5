-- What a session remembers of other transactions, over its own ones: what reads that it made decided for good.
use Rattle.std.specs.Prelude.{ℕ, ◌==◌, nat_eq, true, List, [], Option, None, Some, if◌then◌else◌}
use Rattle.std.specs.Map.{lookup}
use Rattle.lru.specs.LruCache.{lru_cache, promoted, put_entries}
use Rattle.system_parts.specs.declared.known.Known.{Known}
use Rattle.system_parts.specs.declared.known.Known.TheVariants as known
use Rattle.system_parts.specs.declared.asks.Told.{Told}
use Rattle.system_parts.specs.declared.resolve.SettlePoint.{SettlePoint}
use Rattle.system_parts.specs.declared.resolve.SettlePoint.TheVariants.{LastLook}
use Rattle.system_parts.specs.declared.resolve.Outcome.TheVariants.{Committed as CommittedAt, Dead}
use Rattle.system_parts.specs.Resolve.{SettleTurn, Goes, Decides, settle_turn}
use Rattle.system_parts.specs.KeyRead.{Reading, settling_of}

-- how many decisions it may keep, those that it keeps, the most recently used first, and one that was just made
pub record Cache : Type 0 where
  pub room : ℕ
  pub kept : List (ℕ × Known)
  pub fresh : Option (ℕ × Known)

abbrev pub cache_new : ℕ → Cache
cache_new room = record { room = room; kept = []; fresh = None }

-- what is kept of a transaction
abbrev pub known_of : Cache → ℕ → Option Known
known_of cache txn = lookup (nat_eq txn) cache.kept

-- it was used: it comes first
abbrev pub used : Cache → ℕ → Cache
used cache txn = record cache { kept = promoted (nat_eq txn) cache.kept }

-- the decision that was just made comes first, and where there is no room for it, the one that was longest not used goes
abbrev pub kept_with : Cache → ℕ × Known → List (ℕ × Known)
kept_with cache pair = put_entries nat_eq (lru_cache cache.kept cache.room) pair.0 pair.1

abbrev pub fresh_put : Cache → Option (ℕ × Known) → Cache
fresh_put cache None = cache
fresh_put cache (Some pair) = record cache { kept = kept_with cache pair; fresh = None }

abbrev pub put_fresh : Cache → Cache
put_fresh cache = fresh_put cache cache.fresh

-- a decision is fresh until the next fetch or step of a read; without room nothing is kept
abbrev pub cache_learnt : Cache → Option (ℕ × Known) → Cache
cache_learnt cache pair = if cache.room == 0 then cache else record cache { fresh = pair }

-- ---- what a step of a read decides for good: a commit, and that a transaction is dead where its mark was placed or found.
-- Without a mark it may still commit above this reader, and is not kept.
abbrev pub dead_for_good : ℕ → SettlePoint → Option (ℕ × Known)
dead_for_good txn (LastLook true) = Some (txn, known.Dead)
dead_for_good txn _ = None

abbrev pub learnt_of : ℕ → SettlePoint → SettleTurn → Option (ℕ × Known)
learnt_of txn point (Goes next) = None
learnt_of txn point (Decides (CommittedAt commit by_table)) = Some (txn, known.Committed commit)
learnt_of txn point (Decides Dead) = dead_for_good txn point

abbrev pub learnt_by : Reading → Told → Option (ℕ × Known)
learnt_by r told = learnt_of r.cell.version r.point (settle_turn (settling_of r) told)
