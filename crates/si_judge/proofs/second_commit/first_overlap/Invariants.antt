use Rattle.si_judge.proofs.Names.{◌<◌, ℕ, BreaksApart}
use Rattle.si_judge.proofs.second_commit.first_overlap.Given as goal

abbrev pub invariant-loop-second : goal.invariant-loop-second
invariant-loop-second l = (q : ℕ) → q < l.second → BreaksApart l.fn.items l.fn.first q → ⊥
