use Rattle.std.proofs.Common.{◌≡◌, ◌≤◌, ◌-◌, length}
use Rattle.refusal_reasons.specs.Clues.{fits}
use Rattle.refusal_reasons.specs.Sought.{last_in, seek}
use Rattle.refusal_reasons.proofs.sought.seek.Given as goal

abbrev pub invariant-loop-rest : goal.invariant-loop-rest
invariant-loop-rest l = record {
  same : last_in (fits l.clue) l.items l.from (l.rest - l.from) ≡ seek l.items l.from l.clue;
  ahead : l.from ≤ l.rest;
  within : l.rest ≤ length l.items;
}

abbrev pub decreases-loop-rest : goal.decreases-loop-rest
decreases-loop-rest l = l.rest
