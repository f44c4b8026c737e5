use Rattle.std.proofs.Common.{rules}
use Rattle.std.proofs.lemmas.List.Sorted.{answers_always}
use Rattle.trace_index.specs.Numbers.{place_of}
use Rattle.trace_index.proofs.numbers.sort_ranks.Goals as goal

pub returns-clause-rises : goal.returns-clause-rises
returns-clause-rises c = c.sort_unstable_by_key.ensures.sorted place_of (answers_always _ _ _ (λ f a r g h. search rules))
