use Rattle.si_judge.specs.Commits.{HasCommits}
use Rattle.si_judge.proofs.commits.commits_by_start.Given as goal

abbrev pub invariant-loop-place : goal.invariant-loop-place
invariant-loop-place l = HasCommits l.items l.place l.commits
