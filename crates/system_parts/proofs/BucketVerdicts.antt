-- For isolation_laws and cause_laws too.
-- Laws for the crates above: what the buckets tell a start, by the commits that were recorded.
use Rattle.std.proofs.Common.{◌≡◌, ℕ, zero, suc, ◌<◌, ◌≤◌, nat_lt, List, [], ◌∷◌, ◌++◌, length, replicate, Option, Some, None, ◌⊎◌, inl, inr, refl, sym, subst, ◌∙◌, arith, AllPairs, Contains}
use Rattle.std.specs.Prelude.{slice_index_or}
use Rattle.std.proofs.lemmas.Bool.{cases_Bool, ltb-true, ltb-false}
use Rattle.std.proofs.lemmas.List.{length-replicate}
use Rattle.std.proofs.lemmas.Option.{same_Some, none-some}
use Rattle.system_parts.specs.declared.buckets.Recorded.{Recorded}
use Rattle.system_parts.specs.declared.buckets.Verdict.{Verdict}
use Rattle.system_parts.specs.declared.buckets.Verdict.TheVariants.{Free, Conflict, Hidden}
use Rattle.system_parts.specs.Buckets.{Bucket, empty_bucket, kept_commit, place_of, bucket_of, record_pair, record_pairs, contents, judged, key_verdict, first_refusal, verdict, CommitsRise, IsRecordedAt, IsShown, IsInOrder}
use Rattle.system_parts.proofs.BucketPairs.{Every, Ascends}
use Rattle.system_parts.proofs.BucketSteps.{IsOrdered}
use Rattle.system_parts.proofs.BucketLaws.{fed, bucket_of-contents, ordered-empty, ordered-fed, width-fed, length-record_pairs, last_commit_held, kept_commit_last, water_recorded}
use Rattle.system_parts.proofs.LastCommits.{contains_later}

-- what a verdict says of a kept commit or the water
abbrev Judges : ℕ → ℕ → ℕ → Option ℕ → Verdict → Type 0
Judges start key water there Free = ((commit : ℕ) → there ≡ Some commit → commit ≤ start) × (there ≡ None → water ≤ start)
Judges start key water there (Conflict k by) = (k ≡ key) × (there ≡ Some by) × (start < by)
Judges start key water there (Hidden k w) = (k ≡ key) × (there ≡ None) × (w ≡ water) × (start < w)

judges : (start key water : ℕ) (there : Option ℕ) → Judges start key water there (judged start key water there)
judges start key water (Some commit) = elim (cases_Bool (nat_lt start commit)) [
  | inl q ↦ rw q (refl, refl, ltb-true start commit q)
  | inr q ↦ rw q (λ other e. (let same = same_Some commit other e in let le = ltb-false start commit q in omega arith), λ none. absurd (none-some commit (sym none)))
]
judges start key water None = elim (cases_Bool (nat_lt start water)) [
  | inl q ↦ rw q (refl, refl, refl, ltb-true start water q)
  | inr q ↦ rw q (λ other e. absurd (none-some other e), λ none. ltb-false start water q)
]

-- what a verdict over some keys says: each is free, or one of them is not
abbrev Tells : List Bucket → ℕ → List ℕ → Verdict → Type 0
Tells buckets start keys Free = (key : ℕ) → Contains keys key → key_verdict (bucket_of buckets key) start key ≡ Free
Tells buckets start keys (Conflict key by) = Contains keys key × (key_verdict (bucket_of buckets key) start key ≡ Conflict key by)
Tells buckets start keys (Hidden key water) = Contains keys key × (key_verdict (bucket_of buckets key) start key ≡ Hidden key water)

contains_first : (first : ℕ) (keys : List ℕ) → Contains (first ∷ keys) first
contains_first first keys = (0, omega arith, refl)

contains_cases : (first : ℕ) (keys : List ℕ) (key : ℕ) → Contains (first ∷ keys) key → (first ≡ key) ⊎ Contains keys key
contains_cases first keys key (zero, within, e) = inl e
contains_cases first keys key (suc k, within, e) = inr (k, omega arith, e)

tells-first : (buckets : List Bucket) (start first : ℕ) (keys : List ℕ) (here later : Verdict) → key_verdict (bucket_of buckets first) start first ≡ here → Judges start first (bucket_of buckets first).water (kept_commit (bucket_of buckets first).kept first) here → Tells buckets start keys later → Tells buckets start (first ∷ keys) (first_refusal here later)
tells-first buckets start first keys Free Free e j t = λ key there. elim (contains_cases first keys key there) [
  | inl same ↦ subst (λ (k : ℕ). key_verdict (bucket_of buckets k) start k ≡ Free) same e
  | inr rest ↦ t key rest
]
tells-first buckets start first keys Free (Conflict key by) e j t = (contains_later first keys key t.0, t.1)
tells-first buckets start first keys Free (Hidden key water) e j t = (contains_later first keys key t.0, t.1)
tells-first buckets start first keys (Conflict key by) later e j t =
    (subst (λ (k : ℕ). Contains (first ∷ keys) k) (sym j.0) (contains_first first keys), subst (λ (k : ℕ). key_verdict (bucket_of buckets k) start k ≡ Conflict key by) (sym j.0) e)
tells-first buckets start first keys (Hidden key water) later e j t =
    (subst (λ (k : ℕ). Contains (first ∷ keys) k) (sym j.0) (contains_first first keys), subst (λ (k : ℕ). key_verdict (bucket_of buckets k) start k ≡ Hidden key water) (sym j.0) e)

tells : (buckets : List Bucket) (start : ℕ) (keys : List ℕ) → Tells buckets start keys (verdict buckets start keys)
unfolding verdict
tells buckets start [] = λ key there. absurd (let within = there.1 in omega arith)
tells buckets start (first ∷ keys) =
    let bucket = bucket_of buckets first in
    tells-first buckets start first keys (key_verdict bucket start first) (verdict buckets start keys) refl (judges start first bucket.water (kept_commit bucket.kept first)) (tells buckets start keys)

-- a commit that is kept or below the water is not above a start that is told Free
free_below : (start key water commit : ℕ) (there : Option ℕ) → Judges start key water there Free → ((other : ℕ) → there ≡ Some other → other ≡ commit) → (there ≡ Some commit) ⊎ (commit ≤ water) → commit ≤ start
free_below start key water commit (Some other) j last held = let same = last other refl in let le = j.0 other refl in omega arith
free_below start key water commit None j last held = elim held [
  | inl kept ↦ absurd (none-some commit kept)
  | inr low ↦ (let le = j.1 refl in omega arith)
]

shown : (count width : ℕ) (pairs : List Recorded) (start : ℕ) (keys : List ℕ) → 1 ≤ count → 1 ≤ width → CommitsRise pairs → (told : Verdict) → Tells (contents count width pairs) start keys told → IsShown count width pairs start keys told
shown count width pairs start keys some wide rise Free t = λ key commit there last.
    let bucket = bucket_of (contents count width pairs) key in
    let j : Judges start key bucket.water (kept_commit bucket.kept key) Free = subst (λ (v : Verdict). Judges start key bucket.water (kept_commit bucket.kept key) v) (t key there) (judges start key bucket.water (kept_commit bucket.kept key)) in
    free_below start key bucket.water commit (kept_commit bucket.kept key) j (λ other e. same_Some other commit (sym (kept_commit_last count width pairs key other some wide e) ∙ last)) (last_commit_held count width pairs key commit some wide rise last)
shown count width pairs start keys some wide rise (Conflict key by) t =
    let bucket = bucket_of (contents count width pairs) key in
    let j : Judges start key bucket.water (kept_commit bucket.kept key) (Conflict key by) = subst (λ (v : Verdict). Judges start key bucket.water (kept_commit bucket.kept key) v) t.1 (judges start key bucket.water (kept_commit bucket.kept key)) in
    (t.0, kept_commit_last count width pairs key by some wide j.1, j.2)
shown count width pairs start keys some wide rise (Hidden key water) t =
    let bucket = bucket_of (contents count width pairs) key in
    let j : Judges start key bucket.water (kept_commit bucket.kept key) (Hidden key water) = subst (λ (v : Verdict). Judges start key bucket.water (kept_commit bucket.kept key) v) t.1 (judges start key bucket.water (kept_commit bucket.kept key)) in (
      t.0,
      j.1,
      subst (λ (w : ℕ). IsRecordedAt count (place_of count key) pairs w) (sym j.2) (elim (water_recorded count width pairs key some wide) [
        | inl none ↦ absurd (let same = j.2 in let above = j.3 in omega arith)
        | inr found ↦ found
      ]),
      j.3,
    )

pub verdict_shown : (count width : ℕ) (pairs : List Recorded) (start : ℕ) (keys : List ℕ) → 1 ≤ count → 1 ≤ width → CommitsRise pairs → IsShown count width pairs start keys (verdict (contents count width pairs) start keys)
verdict_shown count width pairs start keys some wide rise = shown count width pairs start keys some wide rise (verdict (contents count width pairs) start keys) (tells (contents count width pairs) start keys)

pub length-contents : (count width : ℕ) (pairs : List Recorded) → length (contents count width pairs) ≡ count
length-contents count width pairs = length-record_pairs (replicate count (empty_bucket width)) pairs ∙ length-replicate count (empty_bucket width)

every-at : (low : ℕ) (pairs : List Recorded) → Every (λ later. low < later.key) pairs → (j : ℕ) (d : Recorded) → j < length pairs → low < (slice_index_or pairs j d).key
every-at low [] h j d within = absurd (omega arith)
every-at low (pair ∷ pairs) h zero d within = h.0
every-at low (pair ∷ pairs) h (suc j) d within = every-at low pairs h.1 j d (omega arith)

ascends-pairs : (pairs : List Recorded) → Ascends pairs → AllPairs (λ earlier later. earlier.key < later.key) pairs
ascends-pairs [] h i j d lt within = absurd (omega arith)
ascends-pairs (pair ∷ pairs) h i zero d lt within = absurd (omega arith)
ascends-pairs (pair ∷ pairs) h zero (suc j) d lt within = every-at pair.key pairs h.0 j d (omega arith)
ascends-pairs (pair ∷ pairs) h (suc i) (suc j) d lt within = ascends-pairs pairs h.1 i j d (omega arith) (omega arith)

pub in_order : (count width : ℕ) (pairs : List Recorded) (key : ℕ) → 1 ≤ count → 1 ≤ width → IsInOrder width (bucket_of (contents count width pairs) key)
in_order count width pairs key some wide =
    let ordered : IsOrdered (fed count (place_of count key) (empty_bucket width) pairs) = ordered-fed count (place_of count key) (empty_bucket width) pairs (ordered-empty width wide) in
    let same : (fed count (place_of count key) (empty_bucket width) pairs).width ≡ width = width-fed count (place_of count key) (empty_bucket width) pairs (ordered-empty width wide) in
    subst (IsInOrder width) (sym (bucket_of-contents count width pairs key some)) (record {
      same = same;
      fits = (let fits = ordered.fits in omega arith);
      ascends = ascends-pairs (fed count (place_of count key) (empty_bucket width) pairs).kept ordered.ascends;
    })

pub record_pairs-append : (buckets : List Bucket) (earlier later : List Recorded) → record_pairs buckets (earlier ++ later) ≡ record_pairs (record_pairs buckets earlier) later
unfolding record_pairs
record_pairs-append buckets [] later = refl
record_pairs-append buckets (pair ∷ earlier) later = record_pairs-append (record_pair buckets pair) earlier later
