use Rattle.std.proofs.Common.{rules}
use Rattle.std.proofs.lemmas.Fn.{filter_same}
use Rattle.trace_index.specs.Numbers.{is_done}
use Rattle.trace_index.proofs.numbers.keep_done.Goals as goal

pub returns : goal.returns
returns c = filter_same _ (is_done c.args.transactions.now) _ (λ x b q r. (search rules, search rules)) _ _ c.retain.ensures.filtered
