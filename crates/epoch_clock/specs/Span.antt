-- What is left of a grant's stamps.
use Rattle.std.specs.Prelude.{ℕ}

-- the stamp that was drawn last, at first the epoch, and the greatest that can be drawn
pub record Span : Type 0 where
  pub last : ℕ
  pub ceiling : ℕ
