-- The edges that a judge lays, between neighbours of the version orders alone.
use Rattle.std.specs.Prelude.{◌≡◌, ◌≢◌, ℕ, suc, true, List, None, Some, slice_get}
use Rattle.trace_rules.specs.declared.trace.Version.{Version}
use Rattle.trace_rules.specs.Trace.{Trace, Done, OuterRead}
use Rattle.trace_rules.specs.declared.wanted.Level.{Level}
use Rattle.trace_rules.specs.Stamping.{Point, Start, Commit, Asked}
use Rattle.trace_rules.specs.Below.{Below}

pub data Edge (asked : Asked) (trace : Trace) (orders : ℕ → List ℕ) : Point → Point → Type 0 where
  OfOne : {t : ℕ} → Done trace t → Edge asked trace orders (Start t) (Commit t)
  OfNext : {t u : ℕ} (place k : ℕ) → slice_get (orders k) place ≡ Some t → slice_get (orders k) (suc place) ≡ Some u → Edge asked trace orders (Commit t) (Start u)
  OfRead : {t : ℕ} (k : ℕ) (found : Version) → OuterRead trace t k (Some found) → Edge asked trace orders (Commit found.from) (Start t)
  OfMissed : {t u : ℕ} (place k : ℕ) (found : Version) → OuterRead trace t k (Some found) → slice_get (orders k) place ≡ Some found.from → slice_get (orders k) (suc place) ≡ Some u → u ≢ t → Edge asked trace orders (Start t) (Commit u)
  OfMissedFirst : {t u : ℕ} (k : ℕ) → OuterRead trace t k None → slice_get (orders k) 0 ≡ Some u → u ≢ t → Edge asked trace orders (Start t) (Commit u)
  OfAsked : {x y : Point} → asked x y ≡ true → Edge asked trace orders x y

-- one edge or several
pub data Path (asked : Asked) (trace : Trace) (orders : ℕ → List ℕ) : Point → Point → Type 0 where
  Last : {x y : Point} → Edge asked trace orders x y → Path asked trace orders x y
  More : {x y z : Point} → Edge asked trace orders x y → Path asked trace orders y z → Path asked trace orders x z

-- each next version is forced to be the next: its writer read the one before, or could not overlap with its writer otherwise
pub record Forced (level : Level) (asked : Asked) (trace : Trace) (orders : ℕ → List ℕ) : Type 0 where
  pub next : (place t u k : ℕ) → slice_get (orders k) place ≡ Some t → slice_get (orders k) (suc place) ≡ Some u → Below level asked trace (Commit t) (Start u)
