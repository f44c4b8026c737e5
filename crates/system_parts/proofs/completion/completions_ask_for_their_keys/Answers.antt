use Rattle.system_parts.proofs.CompletionLemmas.{asks_for_their_keys}
use Rattle.system_parts.proofs.completion.completions_ask_for_their_keys.Goals as goal

pub returns : goal.returns
returns c = asks_for_their_keys
