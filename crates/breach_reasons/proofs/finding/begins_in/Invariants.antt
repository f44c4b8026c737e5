use Rattle.std.proofs.Common.{◌≡◌, ◌+◌, ◌≤◌, drop}
use Rattle.breach_reasons.specs.Findings.{begins_in}
use Rattle.breach_reasons.proofs.finding.begins_in.Given as goal

abbrev pub invariant-loop-item : goal.invariant-loop-item
invariant-loop-item l = record {
  sum : l.count + begins_in (drop l.item-index l.items) ≡ begins_in l.items;
  few : l.count ≤ l.item-index;
}
