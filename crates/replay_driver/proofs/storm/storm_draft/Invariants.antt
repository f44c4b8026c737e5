use Rattle.std.proofs.Common.{◌+◌, ◌*◌, ◌≤◌, [], ◌∷◌, length}
use Rattle.std.specs.List.{flat_map, range_with_len}
use Rattle.history_book.specs.declared.item.Actor.TheVariants.{Node}
use Rattle.script_data.specs.declared.line.Verb.TheVariants.{Take}
use Rattle.replay_driver.specs.Drafts.{Adds}
use Rattle.replay_driver.specs.Storm.{group_actions}
use Rattle.replay_driver.proofs.storm.storm_draft.Given as goal

abbrev pub invariant-loop-group : goal.invariant-loop-group
invariant-loop-group l = record {
  lines : Adds [] l.draft.lines.items ((Node 0, Take) ∷ flat_map (group_actions l.transactions) (range_with_len 0 l.group));
  few : length l.draft.lines.items ≤ 1 + 21 * l.group;
}
