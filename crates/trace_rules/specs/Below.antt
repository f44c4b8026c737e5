-- What of two points is forced to come first.
use Rattle.std.specs.Prelude.{◌≡◌, ◌≢◌, ℕ, true, None, Some}
use Rattle.trace_rules.specs.declared.trace.Version.{Version}
use Rattle.trace_rules.specs.Trace.{Trace, Done, Writer, OuterRead}
use Rattle.trace_rules.specs.declared.wanted.Level.{Level}
use Rattle.trace_rules.specs.Stamping.{Conflict, Point, Start, Commit, Asked}

-- the edges, and the paths that they make
pub data Below (level : Level) (asked : Asked) (trace : Trace) : Point → Point → Type 0 where
  -- a transaction's start is below its commit
  Own : {t : ℕ} → Done trace t → Below level asked trace (Start t) (Commit t)
  -- what was read was committed below the reader's start
  ReadsFrom : {t : ℕ} (k : ℕ) (found : Version) → OuterRead trace t k (Some found) → Below level asked trace (Commit found.from) (Start t)
  -- a version above the one that was read is not visible
  Misses : {t u : ℕ} (k value : ℕ) (found : Version) → OuterRead trace t k (Some found) → Writer trace u k value → Below level asked trace (Commit found.from) (Start u) → Below level asked trace (Start t) (Commit u)
  -- where nothing was read no version is visible
  MissesAll : {t u : ℕ} (k value : ℕ) → OuterRead trace t k None → Writer trace u k value → Below level asked trace (Start t) (Commit u)
  -- of two that may not overlap, the one that started before the other's commit was committed before its start
  Parts : {t u : ℕ} → t ≢ u → Conflict level trace t u → Below level asked trace (Start t) (Commit u) → Below level asked trace (Commit t) (Start u)
  -- sessions and time
  Wanted : {x y : Point} → asked x y ≡ true → Below level asked trace x y
  Then : {x y z : Point} → Below level asked trace x y → Below level asked trace y z → Below level asked trace x z
