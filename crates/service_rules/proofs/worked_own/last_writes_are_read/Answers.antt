use Rattle.service_rules.proofs.WorkedOwn as lemmas
use Rattle.service_rules.proofs.worked_own.last_writes_are_read.Goals as goal

pub returns : goal.returns
returns c = record { last = lemmas.last_read; first = lemmas.first_wrong; nothing = lemmas.nothing_wrong }
