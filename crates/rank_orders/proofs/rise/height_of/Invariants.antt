use Rattle.std.proofs.Common.{take}
use Rattle.rank_orders.specs.Rise.{AreUnder, RanksRise}
use Rattle.rank_orders.proofs.rise.height_of.Given as goal

abbrev pub invariant-loop-place : goal.invariant-loop-place
invariant-loop-place l = record {
  rise : RanksRise l.count l.starts l.numbers (take l.place l.ranks);
  under : AreUnder l.starts l.numbers l.height (take l.place l.ranks);
}
