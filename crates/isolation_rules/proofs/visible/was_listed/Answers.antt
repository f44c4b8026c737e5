use Rattle.std.proofs.Common.{sym, ◌∙◌}
use Rattle.isolation_rules.proofs.WriteLemmas.{any_listed, listed_any}
use Rattle.isolation_rules.proofs.visible.was_listed.Goals as goal

pub returns : goal.returns
returns c = (λ e. any_listed _ _ (sym c.any_lists.ensures ∙ e), λ w. c.any_lists.ensures ∙ listed_any _ _ w)
