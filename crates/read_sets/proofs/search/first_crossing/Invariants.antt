use Rattle.std.proofs.Common.{◌<◌, ℕ, IfSome, take}
use Rattle.read_sets.specs.Crossings.{Stands}
use Rattle.read_sets.specs.Index.{AreCleared, IsIndexOf}
use Rattle.read_sets.proofs.search.first_crossing.Given as goal

abbrev pub invariant-loop-first : goal.invariant-loop-first
invariant-loop-first l = record {
  index : IfSome l.index (λ some. IsIndexOf l.items some);
  stood : (i : ℕ) → i < l.first → Stands l.items i;
  cleared : AreCleared l.items (take l.first l.items) l.cleared;
}
