-- Places that rise make serial stamps.
use Rattle.std.proofs.Common.{◌≡◌, ◌≢◌, ℕ, suc, ◌+◌, ◌<◌, ◌⊎◌, List, None, Some, inl, inr, sym, arith}
use Rattle.trace_rules.specs.declared.trace.Version.{Version}
use Rattle.trace_rules.specs.Trace.{Trace, Done, Writer, OuterRead}
use Rattle.trace_rules.specs.declared.wanted.Level.TheVariants.{Serializable}
use Rattle.trace_rules.specs.Stamping.{BothDone, Numbered, IsolatedBy, Point, Start, Commit, stamp_of, Asked, Stampable}
use Rattle.trace_rules.specs.Below.{Below, Own, Misses, MissesAll, Parts, Then}
use Rattle.trace_rules.specs.Rising.{Sourced, Listed, Rising}
use Rattle.trace_rules.specs.Serial.{PlacesDiffer, RisingPlaces, one_by_one, owner}
use Rattle.trace_rules.specs.Graph.{Edge, OfNext, OfRead, OfMissed, OfMissedFirst, OfAsked}
use Rattle.trace_rules.proofs.Isolates.{isolates}

twice_less : (a b : ℕ) → a < b → suc (a + a) < b + b
twice_less a b less = omega (arith, less)

twice_low : (a b : ℕ) → a < b → a + a < suc (b + b)
twice_low a b less = omega (arith, less)

twice_same : (a b : ℕ) → a + a ≡ b + b → a ≡ b
twice_same a b same = omega (arith, same)

odd : (a b : ℕ) → a + a ≡ suc (b + b) → ⊥
odd a b same = absurd (omega (arith, same))

compare : (a b : ℕ) → (a < b) ⊎ ((a ≡ b) ⊎ (b < a))
compare a b = grind arith

module _ (at : ℕ → ℕ) (trace : Trace) (orders : ℕ → List ℕ) (places : RisingPlaces at trace orders) where
  numbered : Numbered (one_by_one at) trace
  numbered = record {
    ordered = λ t d. omega arith;
    starts = λ t u dt du same. places.distinct t u dt du (twice_same (at t) (at u) same);
    commits = λ t u dt du same. places.distinct t u dt du (twice_same (at t) (at u) (omega (arith, same)));
    no_start_commits = λ t u dt du same. odd (at t) (at u) same;
  }

  rising : Rising (one_by_one at) trace orders
  rising = record {
    next = λ place t u k a b. twice_less (at t) (at u) (places.next place t u k a b);
    read = λ t k found r. twice_less (at found.from) (at t) (places.read t k found r);
    missed = λ place t u k found r a b other. twice_low (at t) (at u) (places.missed place t u k found r a b other);
    missed_first = λ t u k r a other. twice_low (at t) (at u) (places.missed_first t u k r a other);
  }

  all_apart : (t u : ℕ) → t ≢ u → BothDone trace t u → (suc (at t + at t) < at u + at u) ⊎ (suc (at u + at u) < at t + at t)
  all_apart t u other both = elim (compare (at t) (at u)) [
    | inl less ↦ inl (twice_less (at t) (at u) less)
    | inr rest ↦ elim rest [
      | inl same ↦ absurd (other (places.distinct t u both.first both.second same))
      | inr more ↦ inr (twice_less (at u) (at t) more)
    ]
  ]

pub serialises : (at : ℕ → ℕ) (trace : Trace) (orders : ℕ → List ℕ) → Sourced trace → Listed trace orders → RisingPlaces at trace orders → IsolatedBy Serializable (one_by_one at) trace
serialises at trace orders sourced listed places =
    let plain = isolates (one_by_one at) trace orders (numbered at trace orders places) sourced listed (rising at trace orders places) in
    record { numbered = plain.numbered; apart = all_apart at trace orders places; reads = plain.reads }

-- ---- the edges of one point a transaction
pub reader_first : (asked : Asked) (trace : Trace) (t u k value : ℕ) (found : Version) → t ≢ u → OuterRead trace t k (Some found) → Writer trace u k value → Below Serializable asked trace (Commit found.from) (Start u) → Below Serializable asked trace (Commit t) (Start u)
reader_first asked trace t u k value found other r w path = Parts other (record { first = r.read.done; second = w.done }) (Misses k value found r w path)

pub reader_of_none_first : (asked : Asked) (trace : Trace) (t u k value : ℕ) → t ≢ u → OuterRead trace t k None → Writer trace u k value → Below Serializable asked trace (Commit t) (Start u)
reader_of_none_first asked trace t u k value other r w = Parts other (record { first = r.read.done; second = w.done }) (MissesAll k value r w)

-- ---- edges between neighbours are enough
module _ (at : ℕ → ℕ) (asked : Asked) (trace : Trace) (orders : ℕ → List ℕ) (differ : PlacesDiffer at trace) (sourced : Sourced trace) (listed : Listed trace orders)
    (rises : (x y : Point) → Edge asked trace orders x y → stamp_of (one_by_one at) x < stamp_of (one_by_one at) y) where
  twice_below : (a b : ℕ) → suc (a + a) < b + b → a < b
  twice_below a b less = omega (arith, less)

  -- a start below a commit is that of a transaction further down
  start_below : (t u : ℕ) → Done trace t → Done trace u → u ≢ t → at t + at t < suc (at u + at u) → at t < at u
  start_below t u dt du other less = elim (compare (at t) (at u)) [
    | inl low ↦ low
    | inr rest ↦ elim rest [
      | inl same ↦ absurd (other (differ u t du dt (sym same)))
      | inr more ↦ absurd (omega (arith, less, more))
    ]
  ]

  places : RisingPlaces at trace orders
  places = record {
    distinct = differ;
    next = λ place t u k a b. twice_below (at t) (at u) (rises (Commit t) (Start u) (OfNext place k a b));
    read = λ t k found r. twice_below (at found.from) (at t) (rises (Commit found.from) (Start t) (OfRead k found r));
    missed = λ place t u k found r a b other. start_below t u r.read.done (listed.wrote (suc place) u k b).1.done other (rises (Start t) (Commit u) (OfMissed place k found r a b other));
    missed_first = λ t u k r a other. start_below t u r.read.done (listed.wrote 0 u k a).1.done other (rises (Start t) (Commit u) (OfMissedFirst k r a other));
  }

  graph_serialises : Stampable Serializable asked trace
  graph_serialises = record {
    stamps = one_by_one at;
    isolated = serialises at trace orders sourced listed places;
    keeps = λ x y wanted. rises x y (OfAsked wanted);
  }

pub serial_graph : (at : ℕ → ℕ) (asked : Asked) (trace : Trace) (orders : ℕ → List ℕ) → PlacesDiffer at trace → Sourced trace → Listed trace orders → ((x y : Point) → Edge asked trace orders x y → stamp_of (one_by_one at) x < stamp_of (one_by_one at) y) → Stampable Serializable asked trace
serial_graph at asked trace orders differ sourced listed rises = graph_serialises at asked trace orders differ sourced listed rises

-- ---- what is forced of points is forced of wholes
pub wholes : (asked : Asked) (trace : Trace) (x y : Point) → Done trace (owner x) → Done trace (owner y) → owner x ≢ owner y → Below Serializable asked trace x y → Below Serializable asked trace (Commit (owner x)) (Start (owner y))
wholes asked trace x y dx dy other path = Parts other (record { first = dx; second = dy }) (to_commit y dy (from_start x dx path))
  where
    from_start : (p : Point) → Done trace (owner p) → Below Serializable asked trace p y → Below Serializable asked trace (Start (owner p)) y
    from_start (Start t) d below = below
    from_start (Commit t) d below = Then (Own d) below

    to_commit : (p : Point) → Done trace (owner p) → Below Serializable asked trace (Start (owner x)) p → Below Serializable asked trace (Start (owner x)) (Commit (owner p))
    to_commit (Commit u) d below = below
    to_commit (Start u) d below = Then below (Own d)
