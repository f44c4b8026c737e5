-- Marks of places.
use Rattle.std.specs.Prelude.{◌≡◌, ℕ, true, vec_len, slice_index_or}
use Rattle.si_judge.specs.declared.marks.Marks.{Marks}

-- the place is marked, or is no place
abbrev pub IsMarked : Marks → ℕ → Type 0
IsMarked marks place = slice_index_or marks.each.items place true ≡ true

-- there are as many places, and those that were marked are
pub record KeepsMarks (old new : Marks) : Type 0 where
  pub each : vec_len new.each ≡ vec_len old.each
  pub at : (place : ℕ) → IsMarked old place → IsMarked new place
