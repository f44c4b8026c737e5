use Rattle.isolation_rules.proofs.StampedLaw.{kept_stamped}
use Rattle.si_judge.proofs.VerdictLemmas.{before_reads}
use Rattle.si_judge.proofs.after_apart.Goals as goal

pub first_pair-requires : goal.first_pair-requires
first_pair-requires c = kept_stamped c.args.items.now c.requires.stamped

pub broken-requires-clause-earlier : goal.broken-requires-clause-earlier
broken-requires-clause-earlier c = before_reads c.args.items.now c.requires.stamped c.requires.apart
