-- Counts of faults.
use Rattle.std.specs.Prelude.{ℕ, ◌<◌, ◌≤◌, ◌-◌, ◌^◌, ◌⊎◌}

-- the count rose, or stands at the last value that it can have
abbrev pub Risen : ℕ → ℕ → Type 0
Risen before now = (before < now) ⊎ (2 ^ 64 - 1 ≤ now)
