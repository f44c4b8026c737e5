use Rattle.std.proofs.Common.{◌≡◌, drop}
use Rattle.system_parts.specs.Instance as entry
use Rattle.oracle_core.proofs.requests.least_unsettled.Given as goal

abbrev pub invariant-loop-held : goal.invariant-loop-held
invariant-loop-held l = entry.lesser l.least (entry.least_unsettled (drop l.held-index l.requests) l.start) ≡ entry.least_unsettled l.requests l.start
