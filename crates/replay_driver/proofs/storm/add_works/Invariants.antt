use Rattle.std.proofs.Common.{◌+◌, ◌-◌, ◌*◌, ◌≤◌, length}
use Rattle.std.specs.List.{flat_map, range_with_len}
use Rattle.replay_driver.specs.Drafts.{Adds}
use Rattle.replay_driver.specs.Storm.{works}
use Rattle.replay_driver.proofs.storm.add_works.Given as goal

abbrev pub invariant-loop-transaction : goal.invariant-loop-transaction
invariant-loop-transaction l = record {
  lines : Adds l.fn.draft.lines.items l.draft.lines.items (flat_map (works l.node) (range_with_len l.first (l.transaction - l.first)));
  within : l.transaction ≤ l.end;
  few : length l.draft.lines.items ≤ length l.fn.draft.lines.items + 3 * (l.transaction - l.first);
}
