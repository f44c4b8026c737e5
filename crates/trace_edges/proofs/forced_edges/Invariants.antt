use Rattle.trace_edges.specs.Edges.{AreLaid}
use Rattle.trace_edges.proofs.forced_edges.Given as goal

abbrev pub invariant-loop-txn : goal.invariant-loop-txn
invariant-loop-txn l = AreLaid l.transactions l.readings l.order l.starts l.nodes l.edges.items

abbrev pub invariant-loop-i : goal.invariant-loop-i
invariant-loop-i l = AreLaid l.transactions l.readings l.order l.starts l.nodes l.edges.items

abbrev pub invariant-loop-i-2 : goal.invariant-loop-i-2
invariant-loop-i-2 l = AreLaid l.transactions l.readings l.order l.starts l.nodes l.edges.items
