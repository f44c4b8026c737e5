-- What holds of the memory of all buckets: each lies within its run, and keeps keys of its own alone.
use Rattle.std.specs.Prelude.{◌≡◌, ℕ, ◌*◌, ◌<◌, ◌≤◌, List, length, slice_index_or}
use Rattle.system_parts.specs.declared.buckets.Recorded.{Recorded}
use Rattle.system_parts.specs.Buckets.{Bucket, empty_bucket, place_of}
use Rattle.system_parts.proofs.BucketPairs.{Every}
use Rattle.system_parts.proofs.BucketSteps.{IsOrdered}
use Rattle.conflict_buckets.specs.declared.bucket.Head.{Head}
use Rattle.conflict_buckets.specs.Runs.{room_of, buckets_in}

-- the key is one of those of a place among so many buckets
abbrev pub IsOf : ℕ → ℕ → ℕ → Type 0
IsOf count place key = (key < 4096) × (place_of count key ≡ place)

-- the bucket of a place is in order, and keeps keys of that place alone
pub record IsSound (count place : ℕ) (bucket : Bucket) : Type 0 where
  pub ordered : IsOrdered bucket
  pub own : Every (λ pair. IsOf count place pair.key) bucket.kept

-- so many buckets of a width lie in runs of so much room
pub record AreSound (width room : ℕ) (heads : List Head) (runs : List Recorded) : Type 0 where
  pub some : 1 ≤ length heads
  pub wide : 1 ≤ width
  pub share : room ≡ room_of (length heads) width
  pub size : length runs ≡ length heads * room
  pub fit : (place : ℕ) (d : Head) → place < length heads → (slice_index_or heads place d).len ≤ room
  pub sound : (place : ℕ) → place < length heads → IsSound (length heads) place (slice_index_or (buckets_in width room heads runs) place (empty_bucket 0))
