-- A source and a sink in memory, and what each call makes of them.
use Rattle.std.specs.Prelude.{ℕ, ◌+◌, ◌-◌, ◌^◌, List, ◌∷◌, ◌++◌, drop, take, min, zero}

-- what is left, the numbers of the reads that fail, counted from 1, and how many reads were made and failed
pub record SourceState : Type 0 where
  pub left : List ℕ
  pub failing : List ℕ
  pub reads : ℕ
  pub faults : ℕ

-- one more, as far as a count of 64 bits goes
abbrev pub one_more : ℕ → ℕ
one_more count = min (count + 1) (2 ^ 64 - 1)

-- a read gave so many bytes
abbrev pub after_read : SourceState → ℕ → SourceState
after_read s n = record s { left = drop n s.left; reads = one_more s.reads }

-- a read failed
abbrev pub after_failed_read : SourceState → SourceState
after_failed_read s = record s { reads = one_more s.reads; faults = one_more s.faults }

-- what was taken, how much there is room for, the numbers of the writes that fail, counted from 1,
-- and how many writes were made and were faults
pub record SinkState : Type 0 where
  pub held : List ℕ
  pub room : ℕ
  pub failing : List ℕ
  pub writes : ℕ
  pub faults : ℕ

-- a write that takes nothing of a piece is a fault, unless the piece is empty
abbrev pub faults_after : ℕ → List ℕ → ℕ → ℕ
faults_after zero (_ ∷ _) faults = one_more faults
faults_after _ _ faults = faults

-- a write took so many bytes of the piece
abbrev pub after_write : SinkState → List ℕ → ℕ → SinkState
after_write s piece n =
    record s { held = s.held ++ take n piece; writes = one_more s.writes; faults = faults_after n piece s.faults }

-- a write failed
abbrev pub after_failed_write : SinkState → SinkState
after_failed_write s = record s { writes = one_more s.writes; faults = one_more s.faults }
