-- How a full bucket makes room.
use Rattle.std.specs.Prelude.{◌≡◌, ℕ, List, [], ◌∷◌}
use Rattle.system_parts.specs.declared.buckets.Recorded.{Recorded}
use Rattle.system_parts.specs.Buckets.{oldest, without}

-- the pair is the oldest one
abbrev pub IsOldest : List Recorded → Recorded → Type 0
IsOldest [] out = ⊥
IsOldest (first ∷ others) out = out ≡ oldest first others

-- the oldest pair went out, which had this commit
abbrev pub ForgetsOldest : List Recorded → List Recorded → ℕ → Type 0
ForgetsOldest [] after commit = ⊥
ForgetsOldest (first ∷ others) after commit = (after ≡ without (first ∷ others) (oldest first others).key) × (commit ≡ (oldest first others).commit)
