use Rattle.stamped_history.specs.Order.{ArePlaced}
use Rattle.stamped_history.proofs.placed.are_placed.Given as goal

abbrev pub invariant-loop-place : goal.invariant-loop-place
invariant-loop-place l = ArePlaced l.level l.transactions l.numbers l.nodes l.ranks l.place
