use Rattle.std.proofs.Common.{◌≡◌, ◌≤◌, length}
use Rattle.refusal_reasons.specs.Sought.{last_in}
use Rattle.refusal_reasons.specs.Showing.{is_rival, rival}
use Rattle.refusal_reasons.proofs.sought.rival.Given as goal

abbrev pub invariant-loop-rest : goal.invariant-loop-rest
invariant-loop-rest l = record {
  same : last_in (is_rival l.items l.term l.key l.by) l.items 0 l.rest ≡ rival l.items l.term l.key l.by;
  within : l.rest ≤ length l.items;
}

abbrev pub decreases-loop-rest : goal.decreases-loop-rest
decreases-loop-rest l = l.rest
