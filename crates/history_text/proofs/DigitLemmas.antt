-- How many digits a number has.
use Rattle.std.proofs.Common.{◌≡◌, ℕ, ◌+◌, ◌/◌, ◌%◌, ◌<◌, ◌≤◌, ◌^◌, List, [], ◌∷◌, ◌++◌, length, length-append, ap, ◌∙◌, arith}
use Rattle.std.specs.Prelude.{decimal}
use Rattle.std.proofs.lemmas.Fmt.{decimal_digit, decimal_step, length-decimal-le}

pub one_digit : (n : ℕ) → n < 10 → length (decimal n) ≡ 1
one_digit n low = ap length (decimal_digit n low)

one_more : (n : ℕ) → 10 ≤ n → n < 2 ^ 64 → length (decimal n) ≡ length (decimal (n / 10)) + 1
one_more n high small = ap length (decimal_step n high small) ∙ length-append (decimal (n / 10)) ((48 + n % 10) ∷ [])

pub two_digits : (n : ℕ) → 10 ≤ n → n < 100 → length (decimal n) ≡ 2
two_digits n high low = one_more n high (omega arith) ∙ ap (λ k. k + 1) (one_digit (n / 10) (omega arith))

pub three_digits : (n : ℕ) → 100 ≤ n → n < 1000 → length (decimal n) ≡ 3
three_digits n high low = one_more n (omega arith) (omega arith) ∙ ap (λ k. k + 1) (two_digits (n / 10) (omega arith) (omega arith))

pub four_digits : (n : ℕ) → 1000 ≤ n → n < 10000 → length (decimal n) ≡ 4
four_digits n high low = one_more n (omega arith) (omega arith) ∙ ap (λ k. k + 1) (three_digits (n / 10) (omega arith) (omega arith))

pub four_more : (n : ℕ) → 10000 ≤ n → n < 2 ^ 64 → length (decimal n) ≡ length (decimal (n / 10000)) + 4
four_more n high small =
    let a = one_more n (omega arith) small in
    let b = one_more (n / 10) (omega arith) (omega arith) in
    let c = one_more (n / 10 / 10) (omega arith) (omega arith) in
    let d = one_more (n / 10 / 10 / 10) (omega arith) (omega arith) in
    let last : n / 10 / 10 / 10 / 10 ≡ n / 10000 = omega arith in
    let same : length (decimal (n / 10 / 10 / 10 / 10)) ≡ length (decimal (n / 10000)) = ap (λ m. length (decimal m)) last in
    omega (arith, a, b, c, d, same)

pub at_most_twenty : (n : ℕ) → n < 2 ^ 64 → length (decimal n) ≤ 20
at_most_twenty n small = length-decimal-le 20 n (omega arith) (omega arith) small

-- a name and a number of k digits at most
pub short_name : (old new name : List ℕ) (n k : ℕ) → new ≡ old ++ (name ++ decimal n) → length (decimal n) ≤ k → length new ≤ length old + length name + k
short_name old new name n k is few = omega (arith, ap length is, length-append old (name ++ decimal n), length-append name (decimal n), few)
