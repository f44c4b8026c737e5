use Rattle.run_board.proofs.Names.{[], AreSeated}
use Rattle.run_board.proofs.Sitting.{with_nodes, with_sessions}
use Rattle.run_board.proofs.seated.without_lines.Given as goal

abbrev pub invariant-loop-node : goal.invariant-loop-node
invariant-loop-node l = AreSeated [] (with_nodes l.node) l.all.items

abbrev pub invariant-loop-session : goal.invariant-loop-session
invariant-loop-session l = AreSeated [] (with_sessions l.nodes l.session) l.all.items
