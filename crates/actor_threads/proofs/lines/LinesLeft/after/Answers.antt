use Rattle.std.proofs.Common.{◌∙◌, ap, drop}
use Rattle.std.proofs.lemmas.List.{drop-drop}
use Rattle.actor_threads.specs.Lines.{own}
use Rattle.actor_threads.proofs.lines.LinesLeft.after.Goals as goal

pub loop-line-preserved : goal.loop-line-preserved
loop-line-preserved c = (
  c.next-done.ensures.actor ∙ c.loop-line.invariant.0,
  c.next-done.ensures.lines ∙ c.loop-line.invariant.1,
  c.next-done.ensures.rest ∙ ap (drop 1) c.loop-line.invariant.2 ∙ drop-drop 1 c.loop-line._line (own c.args.actor c.args.lines.now),
)
