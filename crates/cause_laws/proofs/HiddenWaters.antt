-- A refusal by some keys is that of one of them, and the number that a start is told of a hidden key is the water of the key's
-- bucket.
use Rattle.cause_laws.proofs.Names.{◌≡◌, ◌≢◌, ℕ, nat_lt, Bool, true, false, if◌then◌else◌, List, [], ◌∷◌, Option, None}
use Rattle.cause_laws.proofs.Names.{Some, ◌⊎◌, inl, inr, subst, Verdict, Free, Conflict, Hidden, Bucket, kept_commit}
use Rattle.cause_laws.proofs.Names.{bucket_of, judged, key_verdict, first_refusal, verdict}

-- ---- one key
conflict_or_free : (start first water commit key told : ℕ) (above : Bool) → (if above then Conflict first commit else Free) ≡ Hidden key told → ⊥
conflict_or_free start first water commit key told true is = cc
conflict_or_free start first water commit key told false is = cc

hidden_or_free : (first water key told : ℕ) (above : Bool) → (if above then Hidden first water else Free) ≡ Hidden key told → (first ≡ key) × (water ≡ told)
hidden_or_free first water key told true is = (cc, cc)
hidden_or_free first water key told false is = absurd (cc)

judged_hidden : (start first water : ℕ) (there : Option ℕ) (key told : ℕ) → judged start first water there ≡ Hidden key told → (first ≡ key) × (water ≡ told)
judged_hidden start first water (Some commit) key told is = absurd (conflict_or_free start first water commit key told (nat_lt start commit) is)
judged_hidden start first water None key told is = hidden_or_free first water key told (nat_lt start water) is

-- ---- the first of some keys, and of two sets of them
pub refused_first : (here later why : Verdict) → why ≢ Free → first_refusal here later ≡ why → (here ≡ why) ⊎ (later ≡ why)
refused_first Free later why some is = inr is
refused_first (Conflict key by) later why some is = inl is
refused_first (Hidden key water) later why some is = inl is

pub hidden_water : (buckets : List Bucket) (start : ℕ) (keys : List ℕ) (key water : ℕ) → verdict buckets start keys ≡ Hidden key water → (bucket_of buckets key).water ≡ water
unfolding verdict
hidden_water buckets start [] key water is = absurd (cc)
hidden_water buckets start (first ∷ keys) key water is =
    let bucket : Bucket = bucket_of buckets first in
    elim (refused_first (key_verdict bucket start first) (verdict buckets start keys) (Hidden key water) (λ same. cc) is) [
      | inl here ↦
          let same = judged_hidden start first bucket.water (kept_commit bucket.kept first) key water here in
          subst (λ (k : ℕ). (bucket_of buckets k).water ≡ water) same.0 same.1
      | inr later ↦ hidden_water buckets start keys key water later
    ]
