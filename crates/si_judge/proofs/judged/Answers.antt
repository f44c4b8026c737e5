use Rattle.isolation_rules.specs.declared.verdict.Rule.TheVariants as rule
use Rattle.isolation_rules.proofs.WalkLemmas.{all_kept}
use Rattle.si_judge.proofs.judged.Goals as goal

pub after_stamped-requires : goal.after_stamped-requires
after_stamped-requires c = all_kept rule.Stamped c.args.items.now c.in-None.ensures.pair
