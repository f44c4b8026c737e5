use Rattle.std.specs.Prelude.{◌≡◌, fold, drop, vec_len}
use Rattle.cause_rules.specs.Since.{told_then}
use Rattle.command_semantics.specs.Master.{taken_by}
use Rattle.planned_cluster.specs.Takes.{then_taken}
use Rattle.planned_cluster.proofs.watched.note_takes.Given as goal

abbrev pub invariant-loop-item : goal.invariant-loop-item
invariant-loop-item l = record {
  last : fold (told_then taken_by) l.last (drop l.item-index l.items) ≡ fold (told_then taken_by) l.fn.last l.items;
  taken : fold then_taken l.taken.items (drop l.item-index l.items) ≡ fold then_taken l.fn.taken.items l.items;
  room : vec_len l.taken ≡ 8;
}
