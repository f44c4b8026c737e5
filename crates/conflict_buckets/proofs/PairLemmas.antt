-- A pair that is found is changed where it stands, a new one is put between others, and the oldest one goes out.
use Rattle.std.proofs.Common.{◌≡◌, ℕ, zero, suc, ◌-◌, length, List, [], ◌∷◌, ◌++◌, Some, take, drop, slice_get, slice_set, refl, sym, subst, ap, ◌∙◌, arith}
use Rattle.std.proofs.lemmas.Bool.{eq-eqb}
use Rattle.std.proofs.lemmas.Option.{same_Some}
use Rattle.system_parts.specs.declared.buckets.Recorded.{Recorded}
use Rattle.system_parts.specs.Buckets.{replaced, without}
use Rattle.system_parts.proofs.BucketPairs.{IsAmong, length-without}
use Rattle.system_parts.proofs.BucketSteps.{oldest-among}
use Rattle.conflict_buckets.specs.Oldest.{IsOldest, ForgetsOldest}

pub replaced-found : (pairs : List Recorded) (i : ℕ) (old pair : Recorded) → slice_get pairs i ≡ Some old → old.key ≡ pair.key → take i pairs ++ replaced (drop i pairs) pair ≡ slice_set pairs i pair
unfolding replaced
replaced-found [] i old pair e same = absurd (cc)
replaced-found (first ∷ pairs) zero old pair e same = rw (eq-eqb first.key pair.key (ap (λ (p : Recorded). p.key) (same_Some first old e) ∙ same)) refl
replaced-found (first ∷ pairs) (suc i) old pair e same = ap (λ ps. first ∷ ps) (replaced-found pairs i old pair e same)

-- without a pair that is found
pub without-found : (pairs : List Recorded) (i : ℕ) (old : Recorded) (key : ℕ) → slice_get pairs i ≡ Some old → old.key ≡ key → take i pairs ++ without (drop i pairs) key ≡ take i pairs ++ drop (suc i) pairs
unfolding without
without-found [] i old key e same = absurd (cc)
without-found (first ∷ pairs) zero old key e same = rw (eq-eqb first.key key (ap (λ (p : Recorded). p.key) (same_Some first old e) ∙ same)) refl
without-found (first ∷ pairs) (suc i) old key e same = ap (λ ps. first ∷ ps) (without-found pairs i old key e same)

-- where the others of the oldest pair stand at the front, it went out
pub forgotten : (kept after : List Recorded) (out : Recorded) → IsOldest kept out → take (length (without kept out.key)) after ≡ without kept out.key → ForgetsOldest kept (take (length kept - 1) after) out.commit
forgotten [] after out o e = absurd o
forgotten (first ∷ others) after out o e =
    let less = length-without (first ∷ others) out (subst (λ (p : Recorded). IsAmong p (first ∷ others)) (sym o) (oldest-among first others)) in
    let many : length (first ∷ others) - 1 ≡ length (without (first ∷ others) out.key) = omega (arith, less) in
    (ap (λ (n : ℕ). take n after) many ∙ (e ∙ ap (λ (p : Recorded). without (first ∷ others) p.key) o), ap (λ (p : Recorded). p.commit) o)
