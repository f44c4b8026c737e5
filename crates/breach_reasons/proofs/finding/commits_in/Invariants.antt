use Rattle.std.proofs.Common.{◌≡◌, ◌+◌, ◌≤◌, drop}
use Rattle.breach_reasons.specs.Findings.{commits_in}
use Rattle.breach_reasons.proofs.finding.commits_in.Given as goal

abbrev pub invariant-loop-item : goal.invariant-loop-item
invariant-loop-item l = record {
  sum : l.count + commits_in (drop l.item-index l.items) ≡ commits_in l.items;
  few : l.count ≤ l.item-index;
}
