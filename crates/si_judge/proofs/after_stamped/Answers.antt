use Rattle.isolation_rules.specs.declared.verdict.Rule.TheVariants as rule
use Rattle.si_judge.proofs.Names.{all_kept, kept_stamped}
use Rattle.si_judge.proofs.VerdictLemmas.{before_apart}
use Rattle.si_judge.proofs.after_stamped.Goals as goal

pub first_pair-requires : goal.first_pair-requires
first_pair-requires c = kept_stamped c.args.items.now c.requires

pub broken-requires-clause-earlier : goal.broken-requires-clause-earlier
broken-requires-clause-earlier c = before_apart c.args.items.now c.requires

pub after_apart-requires-clause-apart : goal.after_apart-requires-clause-apart
after_apart-requires-clause-apart c = all_kept rule.Apart c.args.items.now c.in-None.ensures.pair
