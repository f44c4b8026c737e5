-- What a look at a beacon tells.
use Rattle.std.specs.Prelude.{◌≡◌, ℕ, List, Option, None, Some}
use Rattle.master_beacon.specs.declared.rule.Announced.{Announced}
use Rattle.master_beacon.specs.Announcements.{last_of, IsRising, IsFrontOf}

-- the term and the node of a pair, if there is one
abbrev pub answered : Option Announced → Option (ℕ × ℕ)
answered None = None
answered (Some pair) = Some (pair.term, pair.node)

-- What the pass had seen before is a front of what it has seen now, the terms rise in that, and the answer is its last pair,
-- or None where it is empty.
pub record Seen (before now : List Announced) (answer : Option (ℕ × ℕ)) : Type 0 where
  pub front : IsFrontOf before now
  pub rising : IsRising now
  pub last : answer ≡ answered (last_of now)
