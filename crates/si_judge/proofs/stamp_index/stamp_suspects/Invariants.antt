use Rattle.std.proofs.Common.{◌≡◌, length}
use Rattle.isolation_rules.specs.declared.verdict.Rule.TheVariants as rule
use Rattle.si_judge.proofs.SuspectLemmas.{ArePassed}
use Rattle.si_judge.proofs.StampIndexLemmas.{HasBehind}
use Rattle.si_judge.proofs.stamp_index.stamp_suspects.Given as goal

abbrev pub invariant-loop-place : goal.invariant-loop-place
invariant-loop-place l = record {
  each : length l.suspects.items ≡ length l.items;
  passed : ArePassed rule.Stamped l.items l.suspects.items;
  behind : HasBehind l.items l.later l.place;
}
