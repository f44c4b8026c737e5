use Rattle.std.proofs.Common.{◌+◌, ◌-◌, ◌≤◌, length, map}
use Rattle.std.specs.List.{range_with_len}
use Rattle.replay_driver.specs.Drafts.{Adds}
use Rattle.replay_driver.specs.Storm.{commits}
use Rattle.replay_driver.proofs.storm.add_commits.Given as goal

abbrev pub invariant-loop-transaction : goal.invariant-loop-transaction
invariant-loop-transaction l = record {
  lines : Adds l.fn.draft.lines.items l.draft.lines.items (map (commits l.node) (range_with_len l.first (l.transaction - l.first)));
  within : l.transaction ≤ l.end;
  few : length l.draft.lines.items ≤ length l.fn.draft.lines.items + (l.transaction - l.first);
}
