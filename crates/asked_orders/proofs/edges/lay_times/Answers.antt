use Rattle.asked_orders.proofs.edges.lay_times.Goals as goal

pub loop-txn-2-preserved : goal.loop-txn-2-preserved
loop-txn-2-preserved c = (
  λ within. c.in_ok-lay_commit.ensures.within (c.loop-txn-2.invariant.0 within),
  λ operations is joined. c.in_ok-lay_commit.ensures.joined operations is (c.loop-txn-2.invariant.1 operations is joined),
)

pub loop-place-preserved : goal.loop-place-preserved
loop-place-preserved c = (
  λ within. c.in_ok-lay_next.ensures.within (c.loop-place.invariant.0 within),
  λ operations is joined. c.in_ok-lay_next.ensures.joined operations is (c.loop-place.invariant.1 operations is joined),
)

pub returns-clause-joined : goal.returns-clause-joined
returns-clause-joined c = λ operations is joined. c.loop-place.invariant.1 operations is (c.loop-txn-2.invariant.1 operations is (c.loop-txn.invariant.1 operations is joined))
