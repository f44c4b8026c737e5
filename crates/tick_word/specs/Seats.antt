-- A tick word and its handles as their contracts see them.
use Rattle.std.specs.Prelude.{◌≡◌, ℕ, List, sum_by}
use Rattle.atomic_table.specs.Seated.{TableId}
use Rattle.tick_word.specs.Rule.{ticks_to}

-- which word it is, and for how many handles
pub record Ticks : Type 0 where
  pub id : TableId
  pub seats : ℕ

-- of which word the handle is, its parts, and what was drawn through it
pub record Seated : Type 0 where
  pub word : TableId
  pub parts : ℕ
  pub drawn : List ℕ

abbrev pub seated : TableId → ℕ → List ℕ → Seated
seated word parts drawn = record { word = word; parts = parts; drawn = drawn }

-- these are the ticks from 1 to the last one, each once, in some order
abbrev pub AreTicks : ℕ → List ℕ → Type 0
AreTicks last drawn = (weight : ℕ → ℕ) → sum_by weight drawn ≡ sum_by weight (ticks_to last)
