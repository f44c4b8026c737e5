use Rattle.system_parts.proofs.CompletionLemmas.{removal_last}
use Rattle.system_parts.proofs.completion.removal_comes_last.Goals as goal

pub returns : goal.returns
returns c = removal_last
