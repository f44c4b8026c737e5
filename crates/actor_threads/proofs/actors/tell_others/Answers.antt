use Rattle.std.proofs.Common.{◌∙◌, ap, drop}
use Rattle.std.proofs.lemmas.List.{drop-drop}
use Rattle.actor_threads.specs.Lines.{own_left}
use Rattle.actor_threads.proofs.actors.tell_others.Goals as goal

pub loop-line-preserved : goal.loop-line-preserved
loop-line-preserved g c = (
  c.next.ensures.actor ∙ c.loop-line.invariant.0,
  c.next.ensures.rest ∙ ap (drop 1) c.loop-line.invariant.1 ∙ drop-drop 1 c.loop-line._line (own_left c.args.left.now),
)
