use Rattle.std.proofs.Common.{◌≡◌, ◌≤◌, length}
use Rattle.refusal_reasons.specs.Sought.{last_in}
use Rattle.breach_reasons.specs.Breaches.{is_shared, shared_place}
use Rattle.breach_reasons.proofs.shared.shared_write.Given as goal

abbrev pub invariant-loop-rest : goal.invariant-loop-rest
invariant-loop-rest l = record {
  same : last_in (is_shared l.items l.one l.other) l.items 0 l.rest ≡ shared_place l.items l.one l.other;
  within : l.rest ≤ length l.items;
}

abbrev pub decreases-loop-rest : goal.decreases-loop-rest
decreases-loop-rest l = l.rest
