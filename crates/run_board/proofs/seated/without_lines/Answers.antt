use Rattle.run_board.proofs.Names.{[], ◌∷◌, arith, Clock, first_seat}
use Rattle.run_board.proofs.Sitting.{with_nodes, with_sessions, none_sits, no_node, one_more_node, no_session, one_more_session}
use Rattle.run_board.proofs.seated.without_lines.Goals as goal

pub loop-node-init : goal.loop-node-init
loop-node-init c = no_node [] _ (c.in_ok-seat-2.ensures (first_seat Clock ∷ []) (c.in_ok-seat.ensures [] (none_sits [] _ c.new-all.ensures.items)))

pub loop-node-preserved : goal.loop-node-preserved
loop-node-preserved c = one_more_node [] c.loop-node.node _ (c.in_ok-seat_node.ensures (with_nodes c.loop-node.node) c.loop-node.invariant)

pub loop-session-init : goal.loop-session-init
loop-session-init c = no_session [] c.args.nodes c.loop-node.node _ (omega (arith, c.loop-node-test.false, c.loop-node.auto.node-end)) c.loop-node.invariant

pub loop-session-preserved : goal.loop-session-preserved
loop-session-preserved c = one_more_session [] c.args.nodes c.loop-session.session _ (c.in_ok-seat_session.ensures (with_sessions c.args.nodes c.loop-session.session) c.loop-session.invariant)
