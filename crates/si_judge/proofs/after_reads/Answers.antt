use Rattle.isolation_rules.specs.declared.verdict.Rule.TheVariants as rule
use Rattle.isolation_rules.proofs.WalkLemmas.{all_kept}
use Rattle.si_judge.proofs.VerdictLemmas.{before_fresh, all_isolated}
use Rattle.si_judge.proofs.after_reads.Goals as goal

pub broken-requires-clause-earlier : goal.broken-requires-clause-earlier
broken-requires-clause-earlier c = before_fresh c.args.items.now c.requires.stamped c.requires.apart c.requires.reads

pub returns-in-None : goal.returns-in-None
returns-in-None c = all_isolated c.args.items.now c.requires.stamped c.requires.apart c.requires.reads (all_kept rule.Fresh c.args.items.now c.in-None.ensures.pair)
