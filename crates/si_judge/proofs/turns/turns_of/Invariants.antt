use Rattle.si_judge.specs.Turns.{IsTold}
use Rattle.si_judge.proofs.turns.turns_of.Given as goal

abbrev pub invariant-loop-place : goal.invariant-loop-place
invariant-loop-place l = IsTold l.items l.place l.commits l.turns
