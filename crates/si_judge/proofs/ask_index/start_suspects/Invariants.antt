use Rattle.std.proofs.Common.{◌≡◌, length}
use Rattle.isolation_rules.specs.declared.verdict.Rule.TheVariants as rule
use Rattle.si_judge.proofs.SuspectLemmas.{ArePassed}
use Rattle.si_judge.proofs.AskIndexLemmas.{KnowsLeast}
use Rattle.si_judge.proofs.ask_index.start_suspects.Given as goal

abbrev pub invariant-loop-place : goal.invariant-loop-place
invariant-loop-place l = record {
  each : length l.suspects.items ≡ length l.items;
  passed : ArePassed rule.Fresh l.items l.suspects.items;
  least : KnowsLeast l.starts.items l.place l.least;
}
