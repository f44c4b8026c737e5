-- Lists of batches whose numbers rise.
use Rattle.std.specs.Prelude.{◌≡◌, ℕ, ◌+◌, Bool, true, ◌&&◌, nat_le, List, [], ◌∷◌, All}
use Rattle.persist_batches.specs.declared.numbered.Numbered.{Numbered}

-- whether each number is above the one before it, and the first is at least low
abbrev pub rises_from : ℕ → List Numbered → Bool
rises_from low [] = true
rises_from low (batch ∷ batches) = nat_le low batch.number && rises_from (batch.number + 1) batches

-- the least number that may follow, where nothing below low may stand
abbrev pub next_after : ℕ → List Numbered → ℕ
next_after low [] = low
next_after low (batch ∷ batches) = next_after (batch.number + 1) batches

-- in each list the numbers rise
abbrev pub AllRise : List (List Numbered) → Type 0
AllRise rows = All (λ row. rises_from 0 row ≡ true) rows
