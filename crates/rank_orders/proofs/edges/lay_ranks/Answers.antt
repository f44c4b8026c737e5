use Rattle.rank_orders.proofs.edges.lay_ranks.Goals as goal

pub loop-place-preserved : goal.loop-place-preserved
loop-place-preserved c = record {
  within = λ room within. c.in_ok-lay_rank.ensures.within room (c.loop-place.invariant.within room within);
  joined = λ level wanted times chain operations is joined. c.in_ok-lay_rank.ensures.joined level wanted times chain operations is (c.loop-place.invariant.joined level wanted times chain operations is joined);
}
