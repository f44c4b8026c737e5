use Rattle.std.proofs.Common.{◌≡◌, ℕ, ◌+◌, ◌≤◌, ◌^◌, ◌⊎◌, drop}
use Rattle.port_io.specs.Planned.{planned_fate}
use Rattle.port_io.proofs.planned.fate_after.Given as goal

-- the faults so far are of no call that is asked about
abbrev pub invariant-loop-fault : goal.invariant-loop-fault
invariant-loop-fault l = (number : ℕ) → (number ≡ l.made + 1) ⊎ (2 ^ 64 ≤ number) → planned_fate (drop l.fault-index l.plan) l.store number ≡ planned_fate l.plan l.store number
