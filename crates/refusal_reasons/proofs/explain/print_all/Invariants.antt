use Rattle.std.proofs.Common.{◌≡◌, ◌++◌, drop}
use Rattle.refusal_reasons.specs.Words.{explanations}
use Rattle.refusal_reasons.proofs.explain.print_all.Given as goal

abbrev pub invariant-loop-place : goal.invariant-loop-place
invariant-loop-place l = l.text ++ explanations l.items l.place (drop l.place l.items) ≡ l.fn.text ++ explanations l.items 0 l.items
