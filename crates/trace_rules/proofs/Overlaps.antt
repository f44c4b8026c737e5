-- Two that may not overlap, and do.
use Rattle.std.proofs.Common.{◌≢◌, ℕ, Some}
use Rattle.trace_rules.specs.declared.trace.Version.{Version}
use Rattle.trace_rules.specs.Trace.{Trace, Done, Writer, OuterRead}
use Rattle.trace_rules.specs.declared.wanted.Level.{Level}
use Rattle.trace_rules.specs.declared.wanted.Level.TheVariants.{Snapshot, Serializable}
use Rattle.trace_rules.specs.Stamping.{Conflict, Start, Commit, Asked, Stampable}
use Rattle.trace_rules.specs.Below.{Below, Own, ReadsFrom, Misses, Parts, Then}
use Rattle.trace_rules.proofs.Forced.{cycles}

module _ (level : Level) (asked : Asked) (trace : Trace) (t u : ℕ) (other : t ≢ u) where
  turned : u ≢ t
  turned same = other (cc)

  both_done : (l : Level) (a b : ℕ) → Conflict l trace a b → (Done trace a) × (Done trace b)
  both_done Snapshot a b c = (c.first.done, c.second.done)
  both_done Serializable a b c = (c.first, c.second)

  conflict_turned : (l : Level) (a b : ℕ) → Conflict l trace a b → Conflict l trace b a
  conflict_turned Snapshot a b c = record { key = c.key; value = c.other; other = c.value; first = c.second; second = c.first }
  conflict_turned Serializable a b c = record { first = c.second; second = c.first }

  meet : Conflict level trace t u → Below level asked trace (Start t) (Commit u) → Below level asked trace (Start u) (Commit t) → Below level asked trace (Start t) (Start t)
  meet c one two = let d = both_done level t u c in
      Then (Own d.0) (Then (Parts other c one) (Then (Own d.1) (Parts turned (conflict_turned level t u c) two)))

pub overlaps : (level : Level) (asked : Asked) (trace : Trace) (t u : ℕ) → t ≢ u → Conflict level trace t u → Below level asked trace (Start t) (Commit u) → Below level asked trace (Start u) (Commit t) → Stampable level asked trace → ⊥
overlaps level asked trace t u other c one two s = cycles level asked trace (Start t) (meet level asked trace t u other c one two) s

pub lost_updates : (level : Level) (asked : Asked) (trace : Trace) (t u k v w : ℕ) (found : Version) → t ≢ u → OuterRead trace t k (Some found) → OuterRead trace u k (Some found) → Writer trace t k v → Writer trace u k w → Stampable level asked trace → ⊥
lost_updates level asked trace t u k v w found other rt ru wt wu =
    overlaps level asked trace t u other (conflict level) (Misses k w found rt wu (ReadsFrom k found ru)) (Misses k v found ru wt (ReadsFrom k found rt))
  where
    conflict : (l : Level) → Conflict l trace t u
    conflict Snapshot = record { key = k; value = v; other = w; first = wt; second = wu }
    conflict Serializable = record { first = wt.done; second = wu.done }
