use Rattle.std.proofs.Common.{arith}
use Rattle.isolation_rules.proofs.FreshLaw.{stale_before, stale_low}
use Rattle.isolation_rules.proofs.fresh.is_stale_at.Goals as goal
use Rattle.isolation_rules.proofs.fresh.is_stale_at.Goals.{then-second-first-via-then-second-first, then-second-first-via-else-second-first+then-lt}

pub returns-then-second-first : goal.returns-then-second-first
returns-then-second-first c = (
  λ e. absurd (cc),
  λ o. elim c.then-second-first.branch [
    | then-second-first-via-then-second-first w ↦
        let less = stale_before _ _ _ _ _ o in
        absurd (omega (arith, less, w.if-second-first.true))
    | then-second-first-via-else-second-first+then-lt w ↦
        let low = stale_low _ _ _ _ _ _ _ c.in-Begin.is o in
        absurd (grind (arith, low, w.lt.ensures, w.if-lt.true))
  ],
)
