use Rattle.std.specs.Prelude.{◌≡◌, ◌+◌, map, take}
use Rattle.thread_steps.specs.Done.{fresh}
use Rattle.thread_steps.proofs.share.cut.Given as goal

abbrev pub invariant-loop-actor : goal.invariant-loop-actor
invariant-loop-actor g l = record {
  cut : l.shares.items ≡ map fresh (take l.actor-index l.actors);
  parts : l.all.parts + l.actor-index ≡ l.fn.all.parts;
  amount : l.all.amount ≡ 0;
}
