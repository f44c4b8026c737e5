use Rattle.asked_orders.proofs.edges.lay_sessions.Goals as goal

pub loop-next-preserved : goal.loop-next-preserved
loop-next-preserved c = (
  λ within. c.in_ok-lay_turn.ensures.within (c.loop-next.invariant.0 within),
  λ operations is joined. c.in_ok-lay_turn.ensures.joined operations is (c.loop-next.invariant.1 operations is joined),
)
