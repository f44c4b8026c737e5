-- For conflict_buckets too.
-- Laws for the crates above: what the bucket of a key keeps and forgets.
use Rattle.std.proofs.Common.{◌≡◌, ℕ, suc, ◌<◌, ◌≤◌, ◌%◌, ◌==◌, true, List, [], ◌∷◌, length, replicate, Option, Some, None, ◌⊎◌, inl, inr, refl, sym, subst, ap, ◌∙◌, arith, if◌then◌else◌}
use Rattle.std.specs.Option.{option_or}
use Rattle.std.specs.Prelude.{slice_index_or, slice_set}
use Rattle.std.proofs.lemmas.Bool.{cases_Bool, cases_eq, eqb-true, eqb-false, eq-eqb, ne_eqb}
use Rattle.std.proofs.lemmas.List.{get_or-set_same, get_or-set_other, get_or-replicate, length-set, length-replicate}
use Rattle.std.proofs.lemmas.Option.{same_Some, none-some}
use Rattle.system_parts.specs.declared.buckets.Recorded.{Recorded}
use Rattle.system_parts.specs.Buckets.{Bucket, empty_bucket, kept_commit, without, recorded, place_of, bucket_of, record_pair, record_pairs, contents, CommitsRise, last_commit, IsRemembered, IsRecordedAt}
use Rattle.system_parts.proofs.BucketPairs.{Every, every-more, every-replaced, every-added, every-without, every-among}
use Rattle.system_parts.proofs.BucketSteps.{recorded_cases, IsOrdered, ordered-recorded, IsRisen, risen-recorded, water-recorded, width-recorded, kept_commit-recorded, other_key-recorded}

-- what a pair makes of the bucket at a place, which it may pass by
abbrev pub fed_one : ℕ → ℕ → Bucket → Recorded → Bucket
fed_one count place bucket pair = if place_of count pair.key == place then recorded bucket pair else bucket

unfoldable pub fed : ℕ → ℕ → Bucket → List Recorded → Bucket
fed count place bucket [] = bucket
fed count place bucket (pair ∷ later) = fed count place (fed_one count place bucket pair) later

pub length-record_pairs : (buckets : List Bucket) (pairs : List Recorded) → length (record_pairs buckets pairs) ≡ length buckets
unfolding record_pairs
length-record_pairs buckets [] = refl
length-record_pairs buckets (pair ∷ later) = length-record_pairs (record_pair buckets pair) later ∙ length-set buckets (place_of (length buckets) pair.key) (recorded (bucket_of buckets pair.key) pair)

record_pair-at : (buckets : List Bucket) (pair : Recorded) (place : ℕ) → place < length buckets → slice_index_or (record_pair buckets pair) place (empty_bucket 0) ≡ fed_one (length buckets) place (slice_index_or buckets place (empty_bucket 0)) pair
record_pair-at buckets pair place within = elim (cases_Bool (place_of (length buckets) pair.key == place)) [
  | inl q ↦ let same = eqb-true (place_of (length buckets) pair.key) place q in
      let P : ℕ → Type 0 = λ n. slice_index_or (slice_set buckets n (recorded (slice_index_or buckets n (empty_bucket 0)) pair)) place (empty_bucket 0) ≡ recorded (slice_index_or buckets place (empty_bucket 0)) pair in
      rw q (subst P (sym same) (get_or-set_same buckets place (recorded (slice_index_or buckets place (empty_bucket 0)) pair) (empty_bucket 0) within))
  | inr q ↦ rw q (get_or-set_other buckets (place_of (length buckets) pair.key) place (recorded (bucket_of buckets pair.key) pair) (empty_bucket 0) (λ e. eqb-false (place_of (length buckets) pair.key) place q (sym e)))
]

record_pairs-at : (buckets : List Bucket) (pairs : List Recorded) (place : ℕ) → place < length buckets → slice_index_or (record_pairs buckets pairs) place (empty_bucket 0) ≡ fed (length buckets) place (slice_index_or buckets place (empty_bucket 0)) pairs
unfolding record_pairs fed
record_pairs-at buckets [] place within = refl
record_pairs-at buckets (pair ∷ later) place within =
    let same : length (record_pair buckets pair) ≡ length buckets = length-set buckets (place_of (length buckets) pair.key) (recorded (bucket_of buckets pair.key) pair) in
    let ih = record_pairs-at (record_pair buckets pair) later place (omega arith) in
    ih ∙ (ap (λ (n : ℕ). fed n place (slice_index_or (record_pair buckets pair) place (empty_bucket 0)) later) same ∙ ap (λ (b : Bucket). fed (length buckets) place b later) (record_pair-at buckets pair place within))

-- the bucket of a key, from the pairs alone
pub bucket_of-contents : (count width : ℕ) (pairs : List Recorded) (key : ℕ) → 1 ≤ count → bucket_of (contents count width pairs) key ≡ fed count (place_of count key) (empty_bucket width) pairs
bucket_of-contents count width pairs key some =
    let start = replicate count (empty_bucket width) in
    let many : length start ≡ count = length-replicate count (empty_bucket width) in
    let all : length (record_pairs start pairs) ≡ count = length-record_pairs start pairs ∙ many in
    let within : key % count < count = omega arith in
    let inside : key % count < length start = omega arith in
    ap (λ (n : ℕ). slice_index_or (record_pairs start pairs) (place_of n key) (empty_bucket 0)) all
    ∙ (record_pairs-at start pairs (place_of count key) inside
    ∙ (ap (λ (n : ℕ). fed n (place_of count key) (slice_index_or start (place_of count key) (empty_bucket 0)) pairs) many
    ∙ ap (λ (b : Bucket). fed count (place_of count key) b pairs) (get_or-replicate count (key % count) (empty_bucket width) (empty_bucket 0) within)))

pub ordered-empty : (width : ℕ) → 1 ≤ width → IsOrdered (empty_bucket width)
ordered-empty width wide = record { wide = wide; ascends = tt; fits = omega arith }

ordered-fed_one : (count place : ℕ) (bucket : Bucket) (pair : Recorded) → IsOrdered bucket → IsOrdered (fed_one count place bucket pair)
ordered-fed_one count place bucket pair h = elim (cases_Bool (place_of count pair.key == place)) [ inl q ↦ rw q (ordered-recorded bucket pair h) | inr q ↦ rw q h ]

pub ordered-fed : (count place : ℕ) (bucket : Bucket) (pairs : List Recorded) → IsOrdered bucket → IsOrdered (fed count place bucket pairs)
unfolding fed
ordered-fed count place bucket [] h = h
ordered-fed count place bucket (pair ∷ later) h = ordered-fed count place (fed_one count place bucket pair) later (ordered-fed_one count place bucket pair h)

pub width-fed : (count place : ℕ) (bucket : Bucket) (pairs : List Recorded) → IsOrdered bucket → (fed count place bucket pairs).width ≡ bucket.width
unfolding fed
width-fed count place bucket [] h = refl
width-fed count place bucket (pair ∷ later) h =
    width-fed count place (fed_one count place bucket pair) later (ordered-fed_one count place bucket pair h)
    ∙ elim (cases_Bool (place_of count pair.key == place)) [ inl q ↦ rw q (width-recorded bucket pair h.wide) | inr q ↦ rw q refl ]

-- the commits rise from a number
abbrev pub RiseFrom : ℕ → List Recorded → Type 0
RiseFrom top [] = Unit {0}
RiseFrom top (pair ∷ later) = (top ≤ pair.commit) × RiseFrom pair.commit later

rise_from : (top : ℕ) (pairs : List Recorded) → ((j : ℕ) (d : Recorded) → j < length pairs → top ≤ (slice_index_or pairs j d).commit) → CommitsRise pairs → RiseFrom top pairs
rise_from top [] low h = tt
rise_from top (pair ∷ later) low h = (
  low 0 pair (omega arith),
  rise_from pair.commit later (λ j d lt. h 0 (suc j) d (omega arith) (omega arith)) (λ i j d lt within. h (suc i) (suc j) d (omega arith) (omega arith)),
)

-- the last commit of a key after one more pair
abbrev pub later_commit : ℕ → Option ℕ → Recorded → Option ℕ
later_commit key last pair = if pair.key == key then Some pair.commit else last

abbrev pub last_from : ℕ → Option ℕ → List Recorded → Option ℕ
last_from key last [] = last
last_from key last (pair ∷ later) = last_from key (later_commit key last pair) later

option_or_assoc : (a b c : Option ℕ) → option_or (option_or a b) c ≡ option_or a (option_or b c)
option_or_assoc None b c = refl
option_or_assoc (Some x) b c = refl

option_or-none : (a : Option ℕ) → option_or a None ≡ a
option_or-none None = refl
option_or-none (Some x) = refl

last_from-last_commit : (key : ℕ) (last : Option ℕ) (pairs : List Recorded) → last_from key last pairs ≡ option_or (last_commit pairs key) last
unfolding last_commit
last_from-last_commit key last [] = refl
last_from-last_commit key last (pair ∷ later) =
    last_from-last_commit key (later_commit key last pair) later
    ∙ (ap (option_or (last_commit later key)) (elim (cases_Bool (pair.key == key)) [ inl q ↦ rw q refl | inr q ↦ rw q refl ])
    ∙ sym (option_or_assoc (last_commit later key) (if pair.key == key then Some pair.commit else None) last))

abbrev LastHeld : Bucket → ℕ → Option ℕ → Type 0
LastHeld bucket key last = (commit : ℕ) → last ≡ Some commit → IsRemembered bucket key commit

-- a pair of the key itself
held-own : (count : ℕ) (bucket : Bucket) (pair : Recorded) (key : ℕ) (last : Option ℕ) → IsOrdered bucket → pair.key ≡ key → LastHeld (fed_one count (place_of count key) bucket pair) key (later_commit key last pair)
held-own count bucket pair key last h same =
    let here : (place_of count pair.key == place_of count key) ≡ true = eq-eqb (place_of count pair.key) (place_of count key) (ap (place_of count) same) in
    let found : kept_commit (recorded bucket pair).kept key ≡ Some pair.commit = subst (λ (k : ℕ). kept_commit (recorded bucket pair).kept k ≡ Some pair.commit) same (kept_commit-recorded bucket pair h) in
    rw (here, eq-eqb pair.key key same) (λ commit e. inl (found ∙ e))

-- a pair of another key of the bucket
held-other : (bucket : Bucket) (pair : Recorded) (key top : ℕ) (last : Option ℕ) → IsOrdered bucket → IsRisen top bucket → (pair.key ≡ key → ⊥) → LastHeld bucket key last → LastHeld (recorded bucket pair) key last
held-other bucket pair key top last h r ne held = λ commit e.
    let up = water-recorded bucket pair top h r in
    elim (other_key-recorded bucket pair key h ne) [
      | inl stays ↦ elim (held commit e) [ inl kept ↦ inl (stays ∙ kept) | inr low ↦ inr (omega arith) ]
      | inr goes ↦ elim (held commit e) [
        | inl kept ↦ inr (let same = same_Some (recorded bucket pair).water commit (sym goes.0 ∙ kept) in omega arith)
        | inr low ↦ inr (omega arith)
      ]
    ]

held-fed_one : (count : ℕ) (bucket : Bucket) (pair : Recorded) (key top : ℕ) (last : Option ℕ) → IsOrdered bucket → IsRisen top bucket → LastHeld bucket key last → LastHeld (fed_one count (place_of count key) bucket pair) key (later_commit key last pair)
held-fed_one count bucket pair key top last h r held = elim (cases_eq pair.key key) [
  | inl same ↦ held-own count bucket pair key last h same
  | inr ne ↦ rw (ne_eqb pair.key key ne) (elim (cases_Bool (place_of count pair.key == place_of count key)) [
    | inl q ↦ rw q (held-other bucket pair key top last h r ne held)
    | inr q ↦ rw q held
  ])
]

risen-fed_one : (count place : ℕ) (bucket : Bucket) (pair : Recorded) (top : ℕ) → IsOrdered bucket → IsRisen top bucket → top ≤ pair.commit → IsRisen pair.commit (fed_one count place bucket pair)
risen-fed_one count place bucket pair top h r up = elim (cases_Bool (place_of count pair.key == place)) [
  | inl q ↦ rw q (risen-recorded bucket pair top h r up)
  | inr q ↦ rw q (record { above = r.above; below = every-more (λ old. old.commit ≤ top) (λ old. old.commit ≤ pair.commit) (λ old le. omega arith) bucket.kept r.below; water = (let water = r.water in omega arith) })
]

held-fed : (count key : ℕ) (bucket : Bucket) (pairs : List Recorded) (top : ℕ) (last : Option ℕ) → IsOrdered bucket → IsRisen top bucket → RiseFrom top pairs → LastHeld bucket key last → LastHeld (fed count (place_of count key) bucket pairs) key (last_from key last pairs)
unfolding fed
held-fed count key bucket [] top last h r rise held = held
held-fed count key bucket (pair ∷ later) top last h r rise held =
    held-fed count key (fed_one count (place_of count key) bucket pair) later pair.commit (later_commit key last pair)
    (ordered-fed_one count (place_of count key) bucket pair h) (risen-fed_one count (place_of count key) bucket pair top h r rise.0) rise.1 (held-fed_one count bucket pair key top last h r held)

-- the last commit of a key is kept, or is at most the water
pub last_commit_held : (count width : ℕ) (pairs : List Recorded) (key commit : ℕ) → 1 ≤ count → 1 ≤ width → CommitsRise pairs → last_commit pairs key ≡ Some commit → IsRemembered (bucket_of (contents count width pairs) key) key commit
last_commit_held count width pairs key commit some wide rise e =
    subst (λ (b : Bucket). IsRemembered b key commit) (sym (bucket_of-contents count width pairs key some))
    (held-fed count key (empty_bucket width) pairs 0 None (ordered-empty width wide) (record { above = tt; below = tt; water = omega arith }) (rise_from 0 pairs (λ j d lt. omega arith) rise) (λ c none. absurd (none-some c none)) commit
    (last_from-last_commit key None pairs ∙ (option_or-none (last_commit pairs key) ∙ e)))

abbrev KeptLast : Bucket → ℕ → Option ℕ → Type 0
KeptLast bucket key last = (commit : ℕ) → kept_commit bucket.kept key ≡ Some commit → last ≡ Some commit

kept_last-own : (count : ℕ) (bucket : Bucket) (pair : Recorded) (key : ℕ) (last : Option ℕ) → IsOrdered bucket → pair.key ≡ key → KeptLast (fed_one count (place_of count key) bucket pair) key (later_commit key last pair)
kept_last-own count bucket pair key last h same =
    let here : (place_of count pair.key == place_of count key) ≡ true = eq-eqb (place_of count pair.key) (place_of count key) (ap (place_of count) same) in
    let found : kept_commit (recorded bucket pair).kept key ≡ Some pair.commit = subst (λ (k : ℕ). kept_commit (recorded bucket pair).kept k ≡ Some pair.commit) same (kept_commit-recorded bucket pair h) in
    rw (here, eq-eqb pair.key key same) (λ commit e. sym found ∙ e)

kept_last-other : (bucket : Bucket) (pair : Recorded) (key : ℕ) (last : Option ℕ) → IsOrdered bucket → (pair.key ≡ key → ⊥) → KeptLast bucket key last → KeptLast (recorded bucket pair) key last
kept_last-other bucket pair key last h ne held = λ commit e. elim (other_key-recorded bucket pair key h ne) [
  | inl stays ↦ held commit (sym stays ∙ e)
  | inr goes ↦ absurd (none-some commit (sym goes.1 ∙ e))
]

kept_last-fed_one : (count : ℕ) (bucket : Bucket) (pair : Recorded) (key : ℕ) (last : Option ℕ) → IsOrdered bucket → KeptLast bucket key last → KeptLast (fed_one count (place_of count key) bucket pair) key (later_commit key last pair)
kept_last-fed_one count bucket pair key last h held = elim (cases_eq pair.key key) [
  | inl same ↦ kept_last-own count bucket pair key last h same
  | inr ne ↦ rw (ne_eqb pair.key key ne) (elim (cases_Bool (place_of count pair.key == place_of count key)) [
    | inl q ↦ rw q (kept_last-other bucket pair key last h ne held)
    | inr q ↦ rw q held
  ])
]

kept_last-fed : (count key : ℕ) (bucket : Bucket) (pairs : List Recorded) (last : Option ℕ) → IsOrdered bucket → KeptLast bucket key last → KeptLast (fed count (place_of count key) bucket pairs) key (last_from key last pairs)
unfolding fed
kept_last-fed count key bucket [] last h held = held
kept_last-fed count key bucket (pair ∷ later) last h held =
    kept_last-fed count key (fed_one count (place_of count key) bucket pair) later (later_commit key last pair) (ordered-fed_one count (place_of count key) bucket pair h) (kept_last-fed_one count bucket pair key last h held)

-- a kept commit is the last one that was recorded for its key
pub kept_commit_last : (count width : ℕ) (pairs : List Recorded) (key commit : ℕ) → 1 ≤ count → 1 ≤ width → kept_commit (bucket_of (contents count width pairs) key).kept key ≡ Some commit → last_commit pairs key ≡ Some commit
unfolding kept_commit
kept_commit_last count width pairs key commit some wide e =
    let start : KeptLast (empty_bucket width) key None = λ c found. found in
    let found : kept_commit (fed count (place_of count key) (empty_bucket width) pairs).kept key ≡ Some commit = subst (λ (b : Bucket). kept_commit b.kept key ≡ Some commit) (bucket_of-contents count width pairs key some) e in
    sym (option_or-none (last_commit pairs key)) ∙ (sym (last_from-last_commit key None pairs) ∙ kept_last-fed count key (empty_bucket width) pairs None (ordered-empty width wide) start commit found)

-- each commit that a bucket holds or forgot passes the test
record Holds (Q : ℕ → Type 0) (bucket : Bucket) : Type 0 where
  pub kept : Every (λ pair. Q pair.commit) bucket.kept
  pub water : (bucket.water ≡ 0) ⊎ Q bucket.water

holds-recorded : (Q : ℕ → Type 0) (bucket : Bucket) (pair : Recorded) → IsOrdered bucket → Holds Q bucket → Q pair.commit → Holds Q (recorded bucket pair)
holds-recorded Q bucket pair h held here = recorded_cases bucket pair (Holds Q) h.wide
    (λ commit e. record { kept = every-replaced (λ old. Q old.commit) bucket.kept pair here held.kept; water = held.water })
    (λ e room. record { kept = every-added (λ old. Q old.commit) bucket.kept pair here held.kept; water = held.water })
    (λ e out o. record {
      kept = every-added (λ old. Q old.commit) (without bucket.kept out.key) pair here (every-without (λ old. Q old.commit) bucket.kept out.key held.kept);
      water = inr (every-among (λ old. Q old.commit) out bucket.kept held.kept o.there);
    })

-- the pairs of a place pass the test
abbrev AtPlace : (ℕ → Type 0) → ℕ → ℕ → List Recorded → Type 0
AtPlace Q count place pairs = Every (λ pair. place_of count pair.key ≡ place → Q pair.commit) pairs

holds-fed : (Q : ℕ → Type 0) (count place : ℕ) (bucket : Bucket) (pairs : List Recorded) → IsOrdered bucket → Holds Q bucket → AtPlace Q count place pairs → Holds Q (fed count place bucket pairs)
unfolding fed
holds-fed Q count place bucket [] h held all = held
holds-fed Q count place bucket (pair ∷ later) h held all =
    holds-fed Q count place (fed_one count place bucket pair) later (ordered-fed_one count place bucket pair h)
    (elim (cases_Bool (place_of count pair.key == place)) [
      | inl q ↦ rw q (holds-recorded Q bucket pair h held (all.0 (eqb-true (place_of count pair.key) place q)))
      | inr q ↦ rw q held
    ])
    all.1

recorded_at : (count place : ℕ) (pairs : List Recorded) → AtPlace (IsRecordedAt count place pairs) count place pairs
unfolding IsRecordedAt
recorded_at count place [] = tt
recorded_at count place (pair ∷ later) = (
  λ e. inl (e, refl),
  every-more (λ old. place_of count old.key ≡ place → IsRecordedAt count place later old.commit) (λ old. place_of count old.key ≡ place → IsRecordedAt count place (pair ∷ later) old.commit) (λ old f e. inr (f e)) later (recorded_at count place later),
)

-- the water is 0, or a commit that was recorded for a key of the bucket
pub water_recorded : (count width : ℕ) (pairs : List Recorded) (key : ℕ) → 1 ≤ count → 1 ≤ width →
    ((bucket_of (contents count width pairs) key).water ≡ 0) ⊎ IsRecordedAt count (place_of count key) pairs (bucket_of (contents count width pairs) key).water
water_recorded count width pairs key some wide =
    let Q : ℕ → Type 0 = IsRecordedAt count (place_of count key) pairs in
    let held : Holds Q (fed count (place_of count key) (empty_bucket width) pairs) =
    holds-fed Q count (place_of count key) (empty_bucket width) pairs (ordered-empty width wide) (record { kept = tt; water = inl refl }) (recorded_at count (place_of count key) pairs) in
    subst (λ (b : Bucket). (b.water ≡ 0) ⊎ Q b.water) (sym (bucket_of-contents count width pairs key some)) held.water
