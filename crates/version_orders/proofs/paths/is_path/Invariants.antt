use Rattle.std.proofs.Common.{take}
use Rattle.rising_numbers.specs.Rises.{Leads}
use Rattle.version_orders.proofs.paths.is_path.Given as goal

-- the edges so far lead from where the path begins
abbrev pub invariant-loop-i : goal.invariant-loop-i
invariant-loop-i l = Leads l.edges l.from (take l.i l.path) l.node
