use Rattle.si_judge.specs.AskIndex.{IsNoted}
use Rattle.si_judge.proofs.ask_index.asked_starts.Given as goal

abbrev pub invariant-loop-place : goal.invariant-loop-place
invariant-loop-place l = IsNoted l.items l.place l.asked
