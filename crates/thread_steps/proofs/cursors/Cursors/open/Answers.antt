use Rattle.std.proofs.Common.{sym, ap, ◌∙◌, subst}
use Rattle.std.proofs.lemmas.List.{length-map}
use Rattle.thread_steps.specs.Done.{AreFew, all_done}
use Rattle.thread_steps.proofs.Few.{few_at_first, none_done}
use Rattle.thread_steps.proofs.cursors.Cursors.open.Goals as goal

pub invariant_of-result : goal.invariant_of-result
invariant_of-result g c = (
  subst AreFew (sym c.in_ok-cursors.ensures) (few_at_first c.args.actors.now c.requires.few),
  c.open-book.ensures.total ∙ sym (ap all_done c.in_ok-cursors.ensures ∙ none_done c.args.actors.now),
  c.in_ok-shares.ensures.amount,
  rw c.in_ok-cursors.ensures (rw length-map (c.in_ok-shares.ensures.parts ∙ c.open-book.ensures.parts)),
)
