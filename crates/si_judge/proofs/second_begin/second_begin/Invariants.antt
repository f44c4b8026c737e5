use Rattle.si_judge.proofs.Names.{◌<◌, ℕ, take, BreaksFresh, AreLastAsks}
use Rattle.si_judge.proofs.second_begin.second_begin.Given as goal

abbrev pub invariant-loop-second : goal.invariant-loop-second
invariant-loop-second l = record {
  asks : AreLastAsks (take l.second l.items) l.asks.places;
  none : (q : ℕ) → q < l.second → BreaksFresh l.items l.first q → ⊥;
}
