-- The bucket of each place, and what a change of one run makes of all.
use Rattle.std.proofs.Common.{◌≡◌, ℕ, zero, suc, ◌+◌, ◌*◌, ◌<◌, ◌≤◌, length, List, [], ◌∷◌, ◌++◌, take, drop, slice_index_or, slice_set, replicate, inl, inr, refl, sym, subst, ap, ◌∙◌, arith}
use Rattle.std.proofs.lemmas.Bool.{cases_eq, cases_lt}
use Rattle.std.proofs.lemmas.List.{same_lists, get_or-set_same, get_or-set_other, length-set, drop-drop, drop-take, drop_at, take-append-le, length-take-le}
use Rattle.std.proofs.lemmas.Nat.{row_fits}
use Rattle.std.proofs.lemmas.Slice.{take-put_mid_below, drop-put_mid}
use borrow.Rule.Slice.PartMut.{put_mid, post_of}
use Rattle.system_parts.specs.declared.buckets.Recorded.{Recorded}
use Rattle.system_parts.specs.Buckets.{Bucket, empty_bucket, place_of, bucket_of}
use Rattle.conflict_buckets.specs.declared.bucket.Head.{Head}
use Rattle.conflict_buckets.specs.Runs.{bucket_in, buckets_in}

pub length-buckets_in : (width room : ℕ) (heads : List Head) (runs : List Recorded) → length (buckets_in width room heads runs) ≡ length heads
length-buckets_in width room [] runs = refl
length-buckets_in width room (head ∷ heads) runs = ap suc (length-buckets_in width room heads (drop room runs))

pub bucket-at : (width room : ℕ) (heads : List Head) (runs : List Recorded) (place : ℕ) (d : Bucket) (h : Head) → place < length heads →
    slice_index_or (buckets_in width room heads runs) place d ≡ bucket_in width (slice_index_or heads place h) (drop (place * room) runs)
bucket-at width room [] runs place d h within = absurd (omega arith)
bucket-at width room (head ∷ heads) runs zero d h within = let none : 0 ≡ 0 * room = omega arith in ap (λ (n : ℕ). bucket_in width head (drop n runs)) none
bucket-at width room (head ∷ heads) runs (suc place) d h within =
    let more : room + place * room ≡ suc place * room = grind arith in
    bucket-at width room heads (drop room runs) place d h (omega arith)
    ∙ ap (λ (rest : List Recorded). bucket_in width (slice_index_or heads place h) rest) (drop-drop (place * room) room runs ∙ ap (λ (n : ℕ). drop n runs) more)

pub empty-buckets : (width room count : ℕ) (head : Head) (runs : List Recorded) → head.len ≡ 0 → head.water ≡ 0 → buckets_in width room (replicate count head) runs ≡ replicate count (empty_bucket width)
empty-buckets width room zero head runs none dry = refl
empty-buckets width room (suc count) head runs none dry =
    let here : bucket_in width head runs ≡ empty_bucket width = rw (none, dry) refl in
    let rest = empty-buckets width room count head (drop room runs) none dry in
    ap (λ (b : Bucket). b ∷ buckets_in width room (replicate count head) (drop room runs)) here ∙ ap (λ (bs : List Bucket). empty_bucket width ∷ bs) rest

-- the pairs of a run are no others after a change of another run
stays : (room place other : ℕ) (runs run : List Recorded) (count len : ℕ) → place < count → other < count → length runs ≡ count * room → length run ≡ room → len ≤ room → (other ≡ place → ⊥) →
    take len (drop (other * room) (put_mid (place * room) room runs run)) ≡ take len (drop (other * room) runs)
stays room place other runs run count len within within' size many fits ne = elim (cases_lt other place) [
  | inl below ↦
      let before = row_fits other room place room below (omega arith) in
      let inside = row_fits place room count room within (omega arith) in
      sym (drop-take (other * room) len (put_mid (place * room) room runs run))
      ∙ (ap (λ (xs : List Recorded). drop (other * room) xs) (take-put_mid_below (place * room) room runs run (other * room + len) (omega arith) (omega arith))
      ∙ drop-take (other * room) len runs)
  | inr le ↦
      let above : place < other = omega (arith, ne) in
      let behind = row_fits place room other room above (omega arith) in
      let inside = row_fits place room count room within (omega arith) in
      ap (λ (xs : List Recorded). take len xs) (drop-put_mid (place * room) room runs run (other * room) (omega arith) (omega arith) (omega arith))
]

changes : (room place count len : ℕ) (runs run : List Recorded) → place < count → length runs ≡ count * room → length run ≡ room → len ≤ room →
    take len (drop (place * room) (put_mid (place * room) room runs run)) ≡ take len run
changes room place count len runs run within size many fits =
    let inside = row_fits place room count room within (omega arith) in
    ap (λ (xs : List Recorded). take len xs) (drop_at (take (place * room) runs) (run ++ post_of (place * room) room runs) (place * room) (length-take-le (place * room) runs (omega arith)))
    ∙ take-append-le len run (post_of (place * room) room runs) (omega arith)

-- the bucket of a head, which keeps these pairs
abbrev bucket_with : ℕ → Head → List Recorded → Bucket
bucket_with width head pairs = record { width = width; kept = pairs; water = head.water }

-- a change of one run and its head is a change of its bucket
pub bucket-set : (width room : ℕ) (heads : List Head) (runs run : List Recorded) (place : ℕ) (head : Head) → place < length heads → length runs ≡ length heads * room → length run ≡ room → head.len ≤ room →
    ((k : ℕ) (d : Head) → k < length heads → (slice_index_or heads k d).len ≤ room) →
    buckets_in width room (slice_set heads place head) (put_mid (place * room) room runs run) ≡ slice_set (buckets_in width room heads runs) place (bucket_in width head run)
bucket-set width room heads runs run place head within size many fits fit =
    let old = buckets_in width room heads runs in
    let new = buckets_in width room (slice_set heads place head) (put_mid (place * room) room runs run) in
    let count-old : length old ≡ length heads = length-buckets_in width room heads runs in
    let same-heads : length (slice_set heads place head) ≡ length heads = length-set heads place head in
    let count-new : length new ≡ length heads = length-buckets_in width room (slice_set heads place head) (put_mid (place * room) room runs run) ∙ same-heads in
    let count-set : length (slice_set old place (bucket_in width head run)) ≡ length heads = length-set old place (bucket_in width head run) ∙ count-old in
    same_lists new (slice_set old place (bucket_in width head run)) (count-new ∙ sym count-set) (λ k d lt.
    let inside : k < length heads = omega arith in
    let P : List Recorded = put_mid (place * room) room runs run in
    bucket-at width room (slice_set heads place head) P k d head (omega arith)
    ∙ elim (cases_eq k place) [
      | inl e ↦ subst (λ (n : ℕ). bucket_in width (slice_index_or (slice_set heads place head) n head) (drop (n * room) P) ≡ slice_index_or (slice_set old place (bucket_in width head run)) n d) (sym e) (
          ap (λ (h : Head). bucket_in width h (drop (place * room) P)) (get_or-set_same heads place head head within)
          ∙ (ap (λ (pairs : List Recorded). bucket_with width head pairs) (changes room place (length heads) head.len runs run within size many fits)
          ∙ sym (get_or-set_same old place (bucket_in width head run) d (omega arith))))
      | inr ne ↦
          ap (λ (h : Head). bucket_in width h (drop (k * room) P)) (get_or-set_other heads place k head head ne)
          ∙ (ap (λ (pairs : List Recorded). bucket_with width (slice_index_or heads k head) pairs) (stays room place k runs run (length heads) (slice_index_or heads k head).len within inside size many (fit k head inside) ne)
          ∙ (sym (bucket-at width room heads runs k d head inside) ∙ sym (get_or-set_other old place k (bucket_in width head run) d ne)))
    ])

-- the bucket of a key
pub bucket-of : (width room : ℕ) (heads : List Head) (runs : List Recorded) (place key : ℕ) (h : Head) → place ≡ place_of (length heads) key → place < length heads →
    bucket_of (buckets_in width room heads runs) key ≡ bucket_in width (slice_index_or heads place h) (drop (place * room) runs)
bucket-of width room heads runs place key h e within =
    let all : List Bucket = buckets_in width room heads runs in
    ap (λ (n : ℕ). slice_index_or all (place_of n key) (empty_bucket 0)) (length-buckets_in width room heads runs)
    ∙ (ap (λ (p : ℕ). slice_index_or all p (empty_bucket 0)) (sym e) ∙ bucket-at width room heads runs place (empty_bucket 0) h within)
