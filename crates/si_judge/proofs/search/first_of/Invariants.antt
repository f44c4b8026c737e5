use Rattle.si_judge.proofs.Names.{◌<◌, ℕ, Passes}
use Rattle.si_judge.proofs.search.first_of.Given as goal

abbrev pub invariant-loop-first : goal.invariant-loop-first
invariant-loop-first l = (i : ℕ) → i < l.first → Passes l.rule l.items i
