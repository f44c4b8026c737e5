use Rattle.isolation_rules.proofs.KeyLemmas.{shared_any, any_is_shared}
use Rattle.std.proofs.Common.{sym, ◌∙◌}
use Rattle.isolation_rules.proofs.apart.share_key.Goals as goal

pub returns : goal.returns
returns c = (λ e. any_is_shared _ _ _ (sym c.writes_key_of.ensures ∙ e), λ s. c.writes_key_of.ensures ∙ shared_any _ _ _ s)
