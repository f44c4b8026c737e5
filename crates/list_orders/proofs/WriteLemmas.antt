-- Writes of one transaction at one key: which is the last.
use Rattle.std.proofs.Common.{◌≡◌, ℕ, zero, suc, ◌<◌, ◌≤◌, ◌==◌, ◌&&◌, if◌then◌else◌, Bool, true, false, List, [], ◌∷◌, Option, Some, None, slice_get, take, refl, sym, ap, ◌∙◌, arith}
use Rattle.std.specs.Option.{option_or}
use Rattle.std.proofs.lemmas.Bool.{eqb-true}
use Rattle.std.proofs.lemmas.Option.{same_Some}
use Rattle.trace_rules.specs.declared.trace.Operation.{Operation}
use Rattle.trace_rules.specs.declared.trace.Operation.TheVariants.{Read, Write}
use Rattle.trace_rules.specs.Trace.{last_of, written_by}

-- the last of t's writes at k stands here, with this value
pub record IsLast (operations : List Operation) (t k v : ℕ) : Type 0 where
  pub place : ℕ
  pub stands : slice_get operations place ≡ Some (Write t k v)
  pub greatest : (q u : ℕ) → slice_get operations q ≡ Some (Write t k u) → q ≤ place

same_test : (n : ℕ) → (n == n) ≡ true
same_test n = grind arith

writes_here : (t k v : ℕ) → written_by t k (Write t k v) ≡ Some v
writes_here t k v = rw (same_test t, same_test k) refl

written_is : (t k v : ℕ) (x : Operation) → written_by t k x ≡ Some v → x ≡ Write t k v
written_is t k v (Read u l answer) e = absurd (cc)
written_is t k v (Write u l w) e = by (u == t) (l == k) refl refl e
  where
    by : (a b : Bool) → (u == t) ≡ a → (l == k) ≡ b → (if a && b then Some w else None) ≡ Some v → Write u l w ≡ Write t k v
    by true true p q e = let one : u ≡ t = eqb-true u t p in let two : l ≡ k = eqb-true l k q in let three : w ≡ v = same_Some w v e in cc
    by true false p q e = absurd (cc)
    by false b p q e = absurd (cc)

-- where it wrote, it wrote something last
pub some_last : (operations : List Operation) (t k q v : ℕ) → slice_get operations q ≡ Some (Write t k v) → (u : ℕ) × (last_of operations t k ≡ Some u)
unfolding last_of
some_last [] t k q v at = absurd (cc)
some_last (x ∷ xs) t k zero v at = by (last_of xs t k)
  where
    here : written_by t k x ≡ Some v
    here = ap (λ (y : Operation). written_by t k y) (same_Some x (Write t k v) at) ∙ writes_here t k v

    by : (o : Option ℕ) → (u : ℕ) × (option_or o (written_by t k x) ≡ Some u)
    by (Some u) = (u, refl)
    by None = (v, here)
some_last (x ∷ xs) t k (suc q) v at =
    let there = some_last xs t k q v at in
    (there.0, ap (λ (o : Option ℕ). option_or o (written_by t k x)) there.1)

-- and that stands behind all others
pub last_stands : (operations : List Operation) (t k v : ℕ) → last_of operations t k ≡ Some v → IsLast operations t k v
unfolding last_of
last_stands [] t k v e = absurd (cc)
last_stands (x ∷ xs) t k v e = by (last_of xs t k) refl e (λ w at. last_stands xs t k w at)
  where
    by : (o : Option ℕ) → last_of xs t k ≡ o → option_or o (written_by t k x) ≡ Some v → ((w : ℕ) → last_of xs t k ≡ Some w → IsLast xs t k w) → IsLast (x ∷ xs) t k v
    by None p e later = record { place = 0; stands = ap Some (written_is t k v x e); greatest = first }
      where
        none : (u : ℕ) → None ≡ Some u → ⊥
        none u e = cc

        first : (q u : ℕ) → slice_get (x ∷ xs) q ≡ Some (Write t k u) → q ≤ 0
        first zero u at = omega arith
        first (suc q) u at = let some = some_last xs t k q u at in absurd (none some.0 (sym p ∙ some.1))
    by (Some w) p e later =
        let there = later v (p ∙ e) in
        record { place = suc there.place; stands = there.stands; greatest = behind there }
      where
        behind : IsLast xs t k v → (q u : ℕ) → slice_get (x ∷ xs) q ≡ Some (Write t k u) → q ≤ suc (later v (p ∙ e)).place
        behind is zero u at = omega arith
        behind is (suc q) u at = let most = (later v (p ∙ e)).greatest q u at in omega (arith, most)

-- ---- before a place
pub taken : (operations : List Operation) (p q : ℕ) → q < p → slice_get (take p operations) q ≡ slice_get operations q
taken [] zero q less = refl
taken [] (suc p) q less = refl
taken (x ∷ xs) zero q less = absurd (omega (arith, less))
taken (x ∷ xs) (suc p) zero less = refl
taken (x ∷ xs) (suc p) (suc q) less = taken xs p q (omega (arith, less))

pub only_taken : (operations : List Operation) (p q : ℕ) (x : Operation) → slice_get (take p operations) q ≡ Some x → (q < p) × (slice_get operations q ≡ Some x)
only_taken [] zero q x at = absurd (cc)
only_taken [] (suc p) q x at = absurd (cc)
only_taken (y ∷ ys) zero q x at = absurd (cc)
only_taken (y ∷ ys) (suc p) zero x at = (omega arith, at)
only_taken (y ∷ ys) (suc p) (suc q) x at = let there = only_taken ys p q x at in let less = there.0 in (omega (arith, less), there.1)

pub none_before : (operations : List Operation) (p t k q v : ℕ) → last_of (take p operations) t k ≡ None → q < p → slice_get operations q ≡ Some (Write t k v) → ⊥
none_before operations p t k q v none less at =
    let some = some_last (take p operations) t k q v (taken operations p q less ∙ at) in
    by some.0 (sym none ∙ some.1)
  where
    by : (u : ℕ) → None ≡ Some u → ⊥
    by u e = cc
