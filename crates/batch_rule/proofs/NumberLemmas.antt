-- For reply_pipeline too.
-- For those who send: lists of batches whose numbers rise.
use Rattle.std.proofs.Common.{◌≡◌, ℕ, ◌+◌, ◌<◌, ◌≤◌, ◌==◌, Bool, true, ◌&&◌, if◌then◌else◌, List, [], ◌∷◌, ◌++◌, inl, inr, refl, ap, ◌∙◌, le-leb, leb-true, ne_eqb, arith}
use Rattle.std.specs.Prelude.{nat_le, sum_by}
use Rattle.std.proofs.lemmas.Bool.{and_parts, cases_Bool, eqb-true}
use Rattle.std.proofs.lemmas.List.Sums.{sum_by-cons}
use Rattle.persist_batches.specs.declared.numbered.Numbered.{Numbered}
use Rattle.batch_rule.specs.Numbers.{rises_from, next_after}

both_true : (a b : Bool) → a ≡ true → b ≡ true → (a && b) ≡ true
both_true a b p q = ap (λ x. x && b) p ∙ q

pub next_after-push : (low : ℕ) (xs : List Numbered) (x : Numbered) → next_after low (xs ++ x ∷ []) ≡ x.number + 1
next_after-push low [] x = refl
next_after-push low (y ∷ xs) x = next_after-push (y.number + 1) xs x

pub rises-push : (low : ℕ) (xs : List Numbered) (x : Numbered) → rises_from low xs ≡ true → next_after low xs ≤ x.number → rises_from low (xs ++ x ∷ []) ≡ true
rises-push low [] x h le = both_true _ _ (le-leb _ _ le) refl
rises-push low (y ∷ xs) x h le = let p = and_parts _ _ h in both_true _ _ p.0 (rises-push (y.number + 1) xs x p.1 le)

-- a front rises, and what follows it is above
pub rises-front : (low : ℕ) (xs ys : List Numbered) → rises_from low (xs ++ ys) ≡ true → rises_from low xs ≡ true
rises-front low [] ys h = refl
rises-front low (x ∷ xs) ys h = let p = and_parts _ _ h in both_true _ _ p.0 (rises-front (x.number + 1) xs ys p.1)

pub next_above : (low : ℕ) (xs : List Numbered) (x : Numbered) (ys : List Numbered) → rises_from low (xs ++ x ∷ ys) ≡ true → next_after low xs ≤ x.number
next_above low [] x ys h = leb-true _ _ (and_parts _ _ h).0
next_above low (y ∷ xs) x ys h = next_above (y.number + 1) xs x ys (and_parts _ _ h).1

-- one for a batch of the number
abbrev pub is_of : ℕ → Numbered → ℕ
is_of number x = if x.number == number then 1 else 0

-- a number below all is not there
absent : (number low : ℕ) (xs : List Numbered) → number < low → rises_from low xs ≡ true → sum_by (is_of number) xs ≡ 0
absent number low [] lt h = refl
absent number low (x ∷ xs) lt h =
    let p = and_parts _ _ h in
    let above : low ≤ x.number = leb-true _ _ p.0 in
    let rest = absent number (x.number + 1) xs (omega arith) p.1 in
    let none : is_of number x ≡ 0 = rw (ne_eqb x.number number (λ e. omega arith)) refl in
    omega (arith, sum_by-cons (is_of number) x xs, rest, none)

pub at_most_once : (number low : ℕ) (xs : List Numbered) → rises_from low xs ≡ true → sum_by (is_of number) xs ≤ 1
at_most_once number low [] h = omega arith
at_most_once number low (x ∷ xs) h =
    let p = and_parts (nat_le low x.number) (rises_from (x.number + 1) xs) h in
    elim (cases_Bool (x.number == number)) [
      | inl q ↦ let rest = absent number (x.number + 1) xs (let e = eqb-true _ _ q in omega arith) p.1 in
          let one : is_of number x ≡ 1 = rw q refl in
          omega (arith, sum_by-cons (is_of number) x xs, rest, one)
      | inr q ↦ let rest = at_most_once number (x.number + 1) xs p.1 in
          let none : is_of number x ≡ 0 = rw q refl in
          omega (arith, sum_by-cons (is_of number) x xs, rest, none)
    ]
