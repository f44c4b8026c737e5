use Rattle.si_judge.proofs.Names.{◌<◌, ℕ, take, Passes, HasLastWrites, HasListed}
use Rattle.isolation_rules.specs.declared.verdict.Rule.TheVariants as rule
use Rattle.si_judge.proofs.reads.first_wrong_read.Given as goal

abbrev pub invariant-loop-first : goal.invariant-loop-first
invariant-loop-first l = record {
  passed : (i : ℕ) → i < l.first → Passes rule.Read l.items i;
  writes : HasLastWrites (take l.first l.items) l.writes.versions;
  listed : HasListed (take l.first l.items) l.listed.txns;
}
