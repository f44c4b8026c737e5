-- What a transaction of the storm writes is a value.
use Rattle.std.proofs.Common.{◌≡◌, ℕ, ◌+◌, ◌%◌, ◌<◌, ◌≤◌, ◌^◌, List, [], ◌++◌, length, codes, decimal, All, arith}
use Rattle.std.proofs.lemmas.Fmt.{decimal_by_steps}
use Rattle.std.proofs.lemmas.List.Elements.{All-nil, All-cons, All-push, All-same}
use Rattle.stamp_base.specs.Words.{IsVisible, IsValue}

visible_digits : (n : ℕ) → n < 2 ^ 64 → All IsVisible (decimal n)
visible_digits = decimal_by_steps (λ m ds. All IsVisible ds)
    (λ m one. All-cons IsVisible (48 + m) [] (omega arith, omega arith) (All-nil IsVisible))
    (λ m ds ten deeper. All-push IsVisible ds (48 + m % 10) deeper (omega arith, omega arith))

pub is_value : (n : ℕ) (bytes : List ℕ) → n < 2 ^ 64 → bytes ≡ codes "v" ++ decimal n → length bytes ≤ 64 → IsValue bytes
is_value n bytes low is few =
    let visible : All IsVisible (codes "v" ++ decimal n) = All-cons IsVisible 118 (decimal n) (omega arith, omega arith) (visible_digits n low) in
    let some : 1 ≤ length bytes = rw is (omega arith) in
    (some, few, All-same IsVisible bytes (codes "v" ++ decimal n) is visible)
