-- The bounded memory of conflicts: buckets that keep the latest commits of their keys, and forget the oldest.
use Rattle.std.specs.Prelude.{◌≡◌, ◌≤◌, ◌⊎◌, AllPairs, Contains, ◌<◌, ℕ, ◌==◌, ◌%◌, nat_lt, ◌&&◌, ◌||◌, if◌then◌else◌, List, [], ◌∷◌, length, map, replicate, slice_index_or, slice_set, Option, None, Some}
use Rattle.std.specs.Option.{option_or}
use Rattle.system_parts.specs.declared.buckets.Recorded.{Recorded}
use Rattle.system_parts.specs.declared.buckets.Verdict.{Verdict}
use Rattle.system_parts.specs.declared.buckets.Verdict.TheVariants.{Free, Conflict, Hidden}

-- how many pairs a bucket may keep, the pairs that it keeps, ascending by key, and the latest commit that it forgot
pub record Bucket : Type 0 where
  pub width : ℕ
  pub kept : List Recorded
  pub water : ℕ

-- a bucket before the first pair
abbrev pub empty_bucket : ℕ → Bucket
empty_bucket width = record { width = width; kept = []; water = 0 }

-- the commit that is kept for a key
unfoldable pub kept_commit : List Recorded → ℕ → Option ℕ
kept_commit [] key = None
kept_commit (pair ∷ pairs) key = if pair.key == key then Some pair.commit else kept_commit pairs key

-- the pairs with a new commit for a key that is there
unfoldable pub replaced : List Recorded → Recorded → List Recorded
replaced [] pair = []
replaced (old ∷ pairs) pair = if old.key == pair.key then pair ∷ pairs else old ∷ replaced pairs pair

-- the pairs with a new one, before those of greater keys
unfoldable pub added : List Recorded → Recorded → List Recorded
added [] pair = pair ∷ []
added (old ∷ pairs) pair = if nat_lt pair.key old.key then pair ∷ old ∷ pairs else old ∷ added pairs pair

-- the pairs without the one of a key
unfoldable pub without : List Recorded → ℕ → List Recorded
without [] key = []
without (old ∷ pairs) key = if old.key == key then pairs else old ∷ without pairs key

-- of two pairs the one of lesser commit, and of lesser key where the commits are equal
abbrev pub older : Recorded → Recorded → Recorded
older a b = if nat_lt b.commit a.commit || (b.commit == a.commit && nat_lt b.key a.key) then b else a

-- the oldest of some pairs
unfoldable pub oldest : Recorded → List Recorded → Recorded
oldest first [] = first
oldest first (pair ∷ pairs) = oldest (older first pair) pairs

-- a pair goes out for a new one, and its commit becomes the water
abbrev pub exchanged : Bucket → Recorded → Recorded → Bucket
exchanged bucket out pair = record { width = bucket.width; kept = added (without bucket.kept out.key) pair; water = out.commit }

-- a new key in a full bucket: the oldest pair goes out
abbrev pub evicting : Bucket → Recorded → List Recorded → Bucket
evicting bucket pair [] = bucket
evicting bucket pair (first ∷ others) = exchanged bucket (oldest first others) pair

-- by whether the key is kept
abbrev pub placed : Bucket → Recorded → Option ℕ → Bucket
placed bucket pair (Some _) = record bucket { kept = replaced bucket.kept pair }
placed bucket pair None = if nat_lt (length bucket.kept) bucket.width then record bucket { kept = added bucket.kept pair } else evicting bucket pair bucket.kept

-- what a recorded pair makes of its bucket
abbrev pub recorded : Bucket → Recorded → Bucket
recorded bucket pair = placed bucket pair (kept_commit bucket.kept pair.key)

-- the place of a key's bucket among so many
abbrev pub place_of : ℕ → ℕ → ℕ
place_of count key = key % count

-- the bucket of a key
abbrev pub bucket_of : List Bucket → ℕ → Bucket
bucket_of buckets key = slice_index_or buckets (place_of (length buckets) key) (empty_bucket 0)

abbrev pub record_pair : List Bucket → Recorded → List Bucket
record_pair buckets pair = slice_set buckets (place_of (length buckets) pair.key) (recorded (bucket_of buckets pair.key) pair)

-- the buckets after pairs that are recorded in order
unfoldable pub record_pairs : List Bucket → List Recorded → List Bucket
record_pairs buckets [] = buckets
record_pairs buckets (pair ∷ later) = record_pairs (record_pair buckets pair) later

-- what so many buckets of a width hold, once these pairs were recorded
abbrev pub contents : ℕ → ℕ → List Recorded → List Bucket
contents count width pairs = record_pairs (replicate count (empty_bucket width)) pairs

abbrev pub pair_of : ℕ → ℕ → Recorded
pair_of commit key = record { key = key; commit = commit }

-- the pairs that a commit records, in the order of its keys
abbrev pub pairs_of : List ℕ → ℕ → List Recorded
pairs_of keys commit = map (pair_of commit) keys

-- what a start is told of a key, by the commit that is kept for it or else the water
abbrev pub judged : ℕ → ℕ → ℕ → Option ℕ → Verdict
judged start key water (Some commit) = if nat_lt start commit then Conflict key commit else Free
judged start key water None = if nat_lt start water then Hidden key water else Free

abbrev pub key_verdict : Bucket → ℕ → ℕ → Verdict
key_verdict bucket start key = judged start key bucket.water (kept_commit bucket.kept key)

abbrev pub first_refusal : Verdict → Verdict → Verdict
first_refusal Free later = later
first_refusal refusal later = refusal

-- the first key that is a conflict or hidden
unfoldable pub verdict : List Bucket → ℕ → List ℕ → Verdict
verdict buckets start [] = Free
verdict buckets start (key ∷ keys) = first_refusal (key_verdict (bucket_of buckets key) start key) (verdict buckets start keys)

-- the same of the keys that a commit wrote and, where they are free, of those that it read
abbrev pub verdict_both : List Bucket → ℕ → List ℕ → List ℕ → Verdict
verdict_both buckets start written read = first_refusal (verdict buckets start written) (verdict buckets start read)

-- commits never fall
abbrev pub CommitsRise : List Recorded → Type 0
CommitsRise pairs = AllPairs (λ earlier later. earlier.commit ≤ later.commit) pairs

-- the commit that was recorded last for a key
unfoldable pub last_commit : List Recorded → ℕ → Option ℕ
last_commit [] key = None
last_commit (pair ∷ later) key = option_or (last_commit later key) (if pair.key == key then Some pair.commit else None)

-- the commit is kept with the key, or is at most the water
abbrev pub IsRemembered : Bucket → ℕ → ℕ → Type 0
IsRemembered bucket key commit = (kept_commit bucket.kept key ≡ Some commit) ⊎ (commit ≤ bucket.water)

-- the commit was recorded for a key of the bucket at a place
unfoldable pub IsRecordedAt : ℕ → ℕ → List Recorded → ℕ → Type 0
IsRecordedAt count place [] commit = ⊥
IsRecordedAt count place (pair ∷ later) commit = ((place_of count pair.key ≡ place) × (pair.commit ≡ commit)) ⊎ IsRecordedAt count place later commit

-- what a verdict tells of the commits that were recorded
abbrev pub IsShown : ℕ → ℕ → List Recorded → ℕ → List ℕ → Verdict → Type 0
IsShown count width pairs start keys Free = (key commit : ℕ) → Contains keys key → last_commit pairs key ≡ Some commit → commit ≤ start
IsShown count width pairs start keys (Conflict key by) = Contains keys key × (last_commit pairs key ≡ Some by) × (start < by)
IsShown count width pairs start keys (Hidden key water) =
    Contains keys key × (kept_commit (bucket_of (contents count width pairs) key).kept key ≡ None) × IsRecordedAt count (place_of count key) pairs water × (start < water)

-- a bucket keeps its keys in ascending order, each once, and no more of them than it may
pub record IsInOrder (width : ℕ) (bucket : Bucket) : Type 0 where
  pub same : bucket.width ≡ width
  pub fits : length bucket.kept ≤ width
  pub ascends : AllPairs (λ earlier later. earlier.key < later.key) bucket.kept
