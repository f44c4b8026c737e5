use Rattle.service_rules.proofs.WorkedOwn as lemmas
use Rattle.service_rules.proofs.worked_own.erased_writes_may_be_missed.Goals as goal

pub returns : goal.returns
returns c = record { erased = lemmas.erased_right; failed = lemmas.failed_right; elsewhere = lemmas.later_right }
