-- What a copy within a list leaves, where one element goes in or out.
use Rattle.std.proofs.Common.{◌≡◌, ℕ, suc, ◌+◌, ◌<◌, ◌≤◌, length, List, ◌++◌, take, drop, slice_set, inl, inr, arith, rules}
use Rattle.std.specs.List.{copy_within, insert}
use Rattle.std.proofs.lemmas.Bool.{cases_eq}
use Rattle.std.proofs.lemmas.List.{places, same_lists, get_or-set_same, get_or-set_other, length-set}

-- the elements from a place on move up by one, and another takes the place
pub put-between : {X : Type 0} (xs : List X) (place len : ℕ) (x : X) → place ≤ len → len < length xs → take (len + 1) (slice_set (copy_within xs place len (place + 1)) place x) ≡ insert (take len xs) place x
put-between xs place len x le lt = same_lists _ _ (search (rules, places, length-set)) (λ k d h. elim (cases_eq k place) [
  | inl e ↦ grind (arith, places, get_or-set_same, length-set)
  | inr ne ↦ grind (arith, places, get_or-set_other, length-set)
])

-- the elements behind a place move down over it
pub moved-over : {X : Type 0} (xs : List X) (i n : ℕ) → i < length xs → i + n + 1 ≡ length xs → take (i + n) (copy_within xs (i + 1) (length xs) i) ≡ take i xs ++ drop (suc i) xs
moved-over xs i n lt e = same_lists _ _ (search (rules, places)) (λ k d h. grind (arith, places))
