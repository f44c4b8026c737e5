-- The conflict memory: what an instance's buckets hold, and that drawn commits of one key are apart. With strict reads what a
-- drawn commit read is apart too.
use Rattle.std.specs.Prelude.{◌≡◌, ◌≢◌, ℕ, ◌<◌, ◌⊎◌, true, List, Option}
use Rattle.history_book.specs.Isolation.{Wrote}
use Rattle.history_book.specs.declared.item.Item.{Item}
use Rattle.stamp_base.specs.SetupNumbers.{SetupNumbers}
use Rattle.system_parts.specs.Buckets.{contents}
use Rattle.system_parts.specs.Instance.{InstanceEntry}
use Rattle.isolation_laws.specs.Words.{InstanceAt, DrewCommit, recorded}
use Rattle.isolation_laws.specs.ReadSets.{ReadFirst}

-- the buckets of an instance hold what the commits drawn in its term recorded
pub record AreRecorded (setup : SetupNumbers) (nodes : List (Option InstanceEntry)) (h : List Item) : Type 0 where
  pub hold : (n : ℕ) (i : InstanceEntry) → InstanceAt nodes n i → i.buckets ≡ contents setup.buckets setup.width (recorded h i.term)

-- of two transactions that wrote one key, and have drawn their commits, the one's commit is below the other's start
pub record DrawnApart (h : List Item) : Type 0 where
  pub apart : (r s n m term other t c u d k : ℕ) (v w : List ℕ) → DrewCommit h r n term t c → DrewCommit h s m other u d → t ≢ u → Wrote h t k v → Wrote h u k w → (c < u) ⊎ (d < t)

-- of two transactions that have drawn their commits, the one read a key that it had not written and the other wrote it: the
-- writer's commit is below the reader's start, or above its commit
pub record DrawnSerial (h : List Item) : Type 0 where
  pub stood : (r s n m term other t d u c k : ℕ) (value : List ℕ) → DrewCommit h r n term t d → DrewCommit h s m other u c → t ≢ u → ReadFirst h t k → Wrote h u k value → (c < t) ⊎ (d < c)

-- commits are handed to their sessions where the setup has them direct
pub record AreOfForm (setup : SetupNumbers) (nodes : List (Option InstanceEntry)) : Type 0 where
  pub direct : (n : ℕ) (i : InstanceEntry) → InstanceAt nodes n i → i.direct ≡ setup.direct

pub record MemoryFacts (setup : SetupNumbers) (nodes : List (Option InstanceEntry)) (h : List Item) : Type 0 where
  pub recorded : AreRecorded setup nodes h
  pub form : AreOfForm setup nodes
  pub apart : DrawnApart h
  pub serial : setup.strict ≡ true → DrawnSerial h
