-- A writer of a key after the last one.
use Rattle.std.specs.Prelude.{◌≡◌, ℕ, ◌<◌, ◌⊎◌, Option, None, Some}
use Rattle.si_judge.specs.declared.turns.Writer.{Writer}

-- the writer is the last one, or started after its commit
abbrev pub MayFollow : Option Writer → Writer → Type 0
MayFollow None w = w.start < w.commit
MayFollow (Some v) w = (w.start < w.commit) × ((v.commit < w.start) ⊎ ((v.start ≡ w.start) × (v.commit ≡ w.commit)))

-- the transaction t, committed at c, is the last writer, or committed before its start
abbrev pub IsUpTo : ℕ → ℕ → Option Writer → Type 0
IsUpTo t c None = ⊥
IsUpTo t c (Some w) = (w.start < w.commit) × (((t ≡ w.start) × (c ≡ w.commit)) ⊎ (c < w.start))
