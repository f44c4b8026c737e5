use Rattle.std.proofs.Common.{◌==◌, rules}
use Rattle.std.specs.Prelude.{not}
use Rattle.std.proofs.lemmas.Fn.{filter_same}
use Rattle.split_driver.proofs.account.remove_key.Goals as goal

pub returns : goal.returns
returns c = filter_same _ (λ k. not (k == c.args.key)) _ (λ x b q r. (search rules, search rules)) _ _ c.retain.ensures.filtered
