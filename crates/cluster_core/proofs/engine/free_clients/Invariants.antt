use Rattle.std.proofs.Common.{◌≡◌, replicate}
use Rattle.machine.specs.State.{client_new}
use Rattle.cluster_core.proofs.engine.free_clients.Given as goal

abbrev pub invariant-loop-i : goal.invariant-loop-i
invariant-loop-i l = l.clients.items ≡ replicate l.i (client_new l.cache)
