-- How the buckets lie in one piece of memory: each has a run of it, and its pairs stand at the front of the run.
use Rattle.std.specs.Prelude.{ℕ, ◌+◌, ◌/◌, min, List, [], ◌∷◌, take, drop}
use Rattle.system_parts.specs.declared.buckets.Recorded.{Recorded}
use Rattle.system_parts.specs.Buckets.{Bucket}
use Rattle.conflict_buckets.specs.declared.bucket.Head.{Head}

-- how many pairs each of so many buckets of a width may come to: of 4,096 keys each has its share
abbrev pub room_of : ℕ → ℕ → ℕ
room_of count width = min width (4095 / count + 1)

-- the bucket that lies at the front of a run
abbrev pub bucket_in : ℕ → Head → List Recorded → Bucket
bucket_in width head run = record { width = width; kept = take head.len run; water = head.water }

-- the buckets that lie in runs of so much room, one behind the other
abbrev pub buckets_in : ℕ → ℕ → List Head → List Recorded → List Bucket
buckets_in width room [] runs = []
buckets_in width room (head ∷ heads) runs = bucket_in width head runs ∷ buckets_in width room heads (drop room runs)
