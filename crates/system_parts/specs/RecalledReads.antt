-- What is promised of a session's memory, and of the reads that recall it.
use Rattle.std.specs.Prelude.{◌≡◌, ℕ, ◌*◌, ◌<◌, ◌≤◌, ◌⊎◌, ◌↔◌, Bool, List, [], None, Option, Some, Contains, length}
use Rattle.system_parts.specs.declared.rows.Cell.{Cell}
use Rattle.system_parts.specs.Rows.{front_of}
use Rattle.system_parts.specs.declared.known.Known.{Known}
use Rattle.system_parts.specs.declared.asks.Told.{Told}
use Rattle.system_parts.specs.declared.resolve.Outcome.{Outcome}
use Rattle.system_parts.specs.Resolve.{Decides}
use Rattle.system_parts.specs.KeyRead.{Reading, Asks, read_over, read_by, read_told, read_left}
use Rattle.system_parts.specs.CutReads.{IsCut, IsCutTurn}
use Rattle.system_parts.specs.Cache.{Cache, known_of, used, put_fresh, cache_learnt}
use Rattle.system_parts.specs.Recalled.{Remembering, recalled_over, recalled_told, recalled_turn, recalled_from}

-- ---- what is kept
-- a recall leaves the same pairs, as many, and what they tell of each transaction
pub record RecallsKeep (cache : Cache) (txn : ℕ) : Type 0 where
  pub same : (pair : ℕ × Known) → Contains (used cache txn).kept pair ↔ Contains cache.kept pair
  pub many : length (used cache txn).kept ≡ length cache.kept
  pub known : (other : ℕ) → known_of (used cache txn) other ≡ known_of cache other

-- what was fresh is kept then; each other pair that is kept was kept before, and there are no more than there is room for
pub record PutsFresh (cache : Cache) : Type 0 where
  pub known : (pair : ℕ × Known) → cache.fresh ≡ Some pair → known_of (put_fresh cache) pair.0 ≡ Some pair.1
  pub before : (pair : ℕ × Known) → Contains (put_fresh cache).kept pair → Contains cache.kept pair ⊎ (cache.fresh ≡ Some pair)
  pub few : 0 < cache.room → length cache.kept ≤ cache.room → length (put_fresh cache).kept ≤ cache.room
  pub none : (put_fresh cache).fresh ≡ None

abbrev pub MemoriesKeep : Type 0
MemoriesKeep = (cache : Cache) → ((txn : ℕ) → RecallsKeep cache txn) × PutsFresh cache

-- ---- reads that recall
-- without room nothing is learnt; where nothing is fresh nothing is put, and where nothing is kept a read is the plain one
pub record RemembersNothing (cache : Cache) : Type 0 where
  pub learnt : (pair : Option (ℕ × Known)) → cache.room ≡ 0 → cache_learnt cache pair ≡ cache
  pub put : cache.fresh ≡ None → put_fresh cache ≡ cache
  pub over : (every : Bool) (key start epoch : ℕ) (cells : List Cell) → cache.kept ≡ [] → recalled_over every key start epoch cells cache ≡ (read_over every key start epoch cells, cache)
  pub told : (r : Reading) (told : Told) → cache.kept ≡ [] → recalled_told cache r told ≡ (read_told r told, cache)

abbrev pub NothingKeptIsPlain : Type 0
NothingKeptIsPlain = (cache : Cache) → RemembersNothing cache

-- a read is the plain one up to the cell that it comes to, and there it is recalled
pub record RecallsGoCellByCell : Type 0 where
  pub over : (every : Bool) (key start epoch : ℕ) (cells : List Cell) (cache : Cache) → recalled_over every key start epoch cells cache ≡ recalled_from cache (read_over every key start epoch cells)
  pub decided : (cache : Cache) (r : Reading) (outcome : Outcome) → recalled_turn cache r (Decides outcome) ≡ recalled_from cache (read_by r (Decides outcome))

-- at most three steps for each cell, as for a plain one, and each answer that leads on leaves fewer
pub record RecalledReadsEnd : Type 0 where
  pub begins : (every : Bool) (key start epoch : ℕ) (cells : List Cell) (cache : Cache) (r : Reading) → (recalled_over every key start epoch cells cache).0 ≡ Asks r → read_left r ≤ 3 * length cells
  pub falls : (cache : Cache) (r s : Reading) (told : Told) → (recalled_told cache r told).0 ≡ Asks s → read_left s < read_left r

-- the same but that the older cells are cut, and the same remembered
abbrev pub IsCutRecall : Remembering → Remembering → Type 0
IsCutRecall cut whole = IsCutTurn cut.0 whole.0 × (cut.1 ≡ whole.1)

-- a read of the front begins as one of all the cells, and goes on as it at each answer
pub record CutRecallsAreWhole : Type 0 where
  pub begins : (every : Bool) (key start epoch : ℕ) (cells : List Cell) (cache : Cache) → IsCutRecall (recalled_over every key start epoch (front_of start cells) cache) (recalled_over every key start epoch cells cache)
  pub goes_on : (cache : Cache) (cut whole : Reading) (told : Told) → IsCut cut whole → IsCutRecall (recalled_told cache cut told) (recalled_told cache whole told)
