-- A bucket comes to no more keys than there are for its place.
use Rattle.std.proofs.Common.{◌≡◌, ℕ, ◌+◌, ◌/◌, ◌%◌, ◌<◌, ◌≤◌, length, List, [], ◌∷◌, None, inl, inr, arith}
use Rattle.std.proofs.lemmas.Bool.{cases_lt}
use Rattle.std.proofs.Math.Nat.{div-mul-le_self}
use Rattle.std.proofs.lemmas.Nat.{div-add-mod', mul-le, le-div}
use Rattle.system_parts.specs.declared.buckets.Recorded.{Recorded}
use Rattle.system_parts.specs.Buckets.{Bucket, kept_commit, added, recorded, without}
use Rattle.system_parts.proofs.BucketPairs.{Every, Ascends, every-added, every-replaced, every-without, ascends-added, length-added}
use Rattle.system_parts.proofs.BucketSteps.{recorded_cases, ordered-recorded}
use Rattle.conflict_buckets.specs.Runs.{room_of}
use Rattle.conflict_buckets.specs.Sound.{IsOf, IsSound}

-- of two keys of one place the greater one has the greater quotient
quotient-lt : (count a b : ℕ) → a < b → a % count ≡ b % count → a / count < b / count
quotient-lt count a b lt same = elim (cases_lt (a / count) (b / count)) [
  | inl less ↦ less
  | inr not ↦ absurd (let le = mul-le (b / count) count (a / count) count (omega arith) (omega arith) in
      omega (arith, div-add-mod' a count, div-add-mod' b count))
]

-- the key is of the place, and its quotient is within bounds
abbrev IsFrom : ℕ → ℕ → ℕ → ℕ → ℕ → Type 0
IsFrom count place low most key = (key % count ≡ place) × (low ≤ key / count) × (key / count ≤ most)

later-from : (count place low most key : ℕ) (pairs : List Recorded) → key % count ≡ place → low ≤ key / count → Every (λ later. key < later.key) pairs → Every (λ pair. IsFrom count place low most pair.key) pairs →
    Every (λ pair. IsFrom count place (low + 1) most pair.key) pairs
later-from count place low most key [] same up above h = tt
later-from count place low most key (pair ∷ pairs) same up above h =
    let here = h.0 in
    let more = quotient-lt count key pair.key above.0 (omega (arith, here.0)) in
    ((here.0, omega arith, here.2), later-from count place low most key pairs same up above.1 h.1)

ascend-from : (count place low most : ℕ) (pairs : List Recorded) → low ≤ most + 1 → Ascends pairs → Every (λ pair. IsFrom count place low most pair.key) pairs → low + length pairs ≤ most + 1
ascend-from count place low most [] room up h = omega arith
ascend-from count place low most (pair ∷ pairs) room up h =
    let here = h.0 in
    let rest = ascend-from count place (low + 1) most pairs (omega (arith, here.1, here.2)) up.1 (later-from count place low most pair.key pairs here.0 here.1 up.0 h.1) in
    omega (arith, rest)

own-from : (count place : ℕ) (pairs : List Recorded) → 1 ≤ count → Every (λ pair. IsOf count place pair.key) pairs → Every (λ pair. IsFrom count place 0 (4095 / count) pair.key) pairs
own-from count place [] some h = tt
own-from count place (pair ∷ pairs) some h =
    let here = h.0 in
    let whole = div-mul-le_self pair.key count in
    ((here.1, omega arith, le-div (pair.key / count) 4095 count (omega arith) (omega (arith, here.0, whole))), own-from count place pairs some h.1)

-- ascending keys of one place are no more than there are
fits-share : (count place : ℕ) (pairs : List Recorded) → 1 ≤ count → Ascends pairs → Every (λ pair. IsOf count place pair.key) pairs → length pairs ≤ 4095 / count + 1
fits-share count place pairs some up h = omega (arith, ascend-from count place 0 (4095 / count) pairs (omega arith) up (own-from count place pairs some h))

-- there is room for a new key
pub has-room : (count place width : ℕ) (bucket : Bucket) (pair : Recorded) → 1 ≤ count → IsSound count place bucket → IsOf count place pair.key → kept_commit bucket.kept pair.key ≡ None → length bucket.kept < width → length bucket.kept < room_of count width
has-room count place width bucket pair some h here new below =
    let many = length-added bucket.kept pair in
    let share = fits-share count place (added bucket.kept pair) some (ascends-added bucket.kept pair new h.ordered.ascends) (every-added (λ old. IsOf count place old.key) bucket.kept pair here h.own) in
    omega (arith, many, share)

-- a recorded pair of the place keeps its bucket sound
pub sound-recorded : (count place : ℕ) (bucket : Bucket) (pair : Recorded) → IsSound count place bucket → IsOf count place pair.key → IsSound count place (recorded bucket pair)
sound-recorded count place bucket pair h here = record {
  ordered = ordered-recorded bucket pair h.ordered;
  own = recorded_cases bucket pair (λ next. Every (λ old. IsOf count place old.key) next.kept) h.ordered.wide
      (λ commit e. every-replaced (λ old. IsOf count place old.key) bucket.kept pair here h.own)
      (λ e room. every-added (λ old. IsOf count place old.key) bucket.kept pair here h.own)
      (λ e out o. every-added (λ old. IsOf count place old.key) (without bucket.kept out.key) pair here (every-without (λ old. IsOf count place old.key) bucket.kept out.key h.own));
}
