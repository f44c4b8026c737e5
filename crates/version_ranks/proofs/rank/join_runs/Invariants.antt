use Rattle.std.proofs.Common.{◌≡◌, ◌++◌, take, drop}
use Rattle.version_ranks.specs.Ranks.{runs_from, runs_of}
use Rattle.version_ranks.proofs.rank.join_runs.Given as goal

-- what is done, and the runs of what is left, are those of all
abbrev pub invariant-loop-place : goal.invariant-loop-place
invariant-loop-place l = record {
  runs : take l.place l.ranks ++ runs_from l.before (drop l.place l.ranks) ≡ runs_of l.fn.ranks;
}
