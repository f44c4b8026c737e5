-- When readings of clocks are steady.
use Rattle.std.specs.Prelude.{ℕ, ◌+◌, ◌≤◌, List, AllPairs}

-- of any two readings the earlier is above the later by the skew at most
abbrev pub Steady : ℕ → List ℕ → Type 0
Steady skew readings = AllPairs (λ earlier later. earlier ≤ later + skew) readings
