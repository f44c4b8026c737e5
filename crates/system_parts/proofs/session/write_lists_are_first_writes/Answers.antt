use Rattle.system_parts.proofs.WriteListLemmas.{takes_in, in_found, found_in}
use Rattle.system_parts.proofs.session.write_lists_are_first_writes.Goals as goal

pub returns : goal.returns
returns c = λ keys key. ((in_found keys key, found_in keys key), takes_in keys key)
