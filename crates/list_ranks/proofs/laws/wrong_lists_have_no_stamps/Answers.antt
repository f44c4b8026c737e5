use Rattle.list_ranks.proofs.LawLemmas.{wrong_has_none}
use Rattle.list_ranks.proofs.laws.wrong_lists_have_no_stamps.Goals as goal

pub returns : goal.returns
returns c = wrong_has_none
