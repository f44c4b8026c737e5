use Rattle.list_ranks.proofs.LawLemmas.{lists_keep, lists_see}
use Rattle.list_ranks.proofs.laws.told_lists_decide.Goals as goal

pub returns : goal.returns
returns c = record { sees = lists_see; keeps = lists_keep }
