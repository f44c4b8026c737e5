use Rattle.split_parts.proofs.Names.{◌≡◌, drop, planned_fate}
use Rattle.split_parts.proofs.fates.planned_fate.Given as goal

-- the faults so far are of other calls
abbrev pub invariant-loop-fault : goal.invariant-loop-fault
invariant-loop-fault l = planned_fate (drop l.fault-index l.faults) l.store l.number ≡ planned_fate l.faults l.store l.number
