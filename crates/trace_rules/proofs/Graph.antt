-- Edges between neighbours are enough.
use Rattle.std.proofs.Common.{ℕ, suc, ◌<◌, List}
use Rattle.trace_rules.specs.Trace.{Trace}
use Rattle.trace_rules.specs.declared.wanted.Level.{Level}
use Rattle.trace_rules.specs.declared.wanted.Level.TheVariants.{Snapshot}
use Rattle.trace_rules.specs.Stamping.{Stamping, Point, Start, Commit, stamp_of, Asked, Numbered, Stampable}
use Rattle.trace_rules.specs.Below.{Below, Own, ReadsFrom, Misses, MissesAll, Wanted, Then}
use Rattle.trace_rules.specs.Rising.{Sourced, Listed}
use Rattle.trace_rules.specs.Graph.{Edge, OfOne, OfNext, OfRead, OfMissed, OfMissedFirst, OfAsked, Path, Last, More, Forced}
use Rattle.trace_rules.proofs.Forced.{cycles}
use Rattle.trace_rules.proofs.Isolates.{isolates}

module _ (level : Level) (asked : Asked) (trace : Trace) (orders : ℕ → List ℕ) (listed : Listed trace orders) (forced : Forced level asked trace orders) where
  edge_below : {x y : Point} → Edge asked trace orders x y → Below level asked trace x y
  edge_below (OfOne d) = Own d
  edge_below (OfNext {t} {u} place k a b) = forced.next place t u k a b
  edge_below (OfRead k found r) = ReadsFrom k found r
  edge_below (OfMissed {t} {u} place k found r a b other) = let w = listed.wrote (suc place) u k b in Misses k w.0 found r w.1 (forced.next place found.from u k a b)
  edge_below (OfMissedFirst {t} {u} k r a other) = let w = listed.wrote 0 u k a in MissesAll k w.0 r w.1
  edge_below (OfAsked wanted) = Wanted wanted

  path_below : {x y : Point} → Path asked trace orders x y → Below level asked trace x y
  path_below (Last e) = edge_below e
  path_below (More e p) = Then (edge_below e) (path_below p)

pub graph_cycles : (level : Level) (asked : Asked) (trace : Trace) (orders : ℕ → List ℕ) (x : Point) → Listed trace orders → Forced level asked trace orders → Path asked trace orders x x → Stampable level asked trace → ⊥
graph_cycles level asked trace orders x listed forced path s = cycles level asked trace x (path_below level asked trace orders listed forced path) s

pub graph_stamps : (st : Stamping) (asked : Asked) (trace : Trace) (orders : ℕ → List ℕ) → Numbered st trace → Sourced trace → Listed trace orders → ((x y : Point) → Edge asked trace orders x y → stamp_of st x < stamp_of st y) → Stampable Snapshot asked trace
graph_stamps st asked trace orders numbered sourced listed rises = record {
  stamps = st;
  isolated = isolates st trace orders numbered sourced listed (record {
    next = λ place t u k a b. rises (Commit t) (Start u) (OfNext place k a b);
    read = λ t k found r. rises (Commit found.from) (Start t) (OfRead k found r);
    missed = λ place t u k found r a b other. rises (Start t) (Commit u) (OfMissed place k found r a b other);
    missed_first = λ t u k r a other. rises (Start t) (Commit u) (OfMissedFirst k r a other);
  });
  keeps = λ x y wanted. rises x y (OfAsked wanted);
}
