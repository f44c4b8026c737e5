use Rattle.std.proofs.Common.{◌≤◌, ℕ, List}
use Rattle.trace_rules.specs.declared.wanted.Level.{Level}
use Rattle.trace_rules.specs.declared.wanted.Times.{Times}
use Rattle.trace_rules.specs.declared.wanted.Wanted.{Wanted}
use Rattle.rising_numbers.specs.Rises.{AreWithin}
use Rattle.asked_orders.specs.Joins.{moments_for}
use Rattle.asked_orders.specs.Laid.{StillJoined}
use Rattle.version_ranks.specs.Ranks.{asked_with}
use Rattle.rank_orders.proofs.edges.lay_ranks.Given as goal

abbrev pub invariant-loop-place : goal.invariant-loop-place
invariant-loop-place l = record {
  within : l.nodes.points ≤ l.nodes.all → AreWithin l.nodes.all l.initial.edges.items → AreWithin l.nodes.all l.edges.items;
  joined : (level : Level) (wanted : Wanted) (times : List Times) (chain : List ℕ) → StillJoined level (asked_with wanted level times l.ranks) (moments_for wanted level times) l.transactions l.nodes.starts l.nodes.points chain l.initial.edges.items l.edges.items;
}
