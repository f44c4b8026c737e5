use Rattle.std.proofs.Common.{◌≡◌, ◌+◌, ◌≤◌, map, length}
use Rattle.line_reasons.specs.Objects.{names_in}
use Rattle.line_reasons.proofs.members.names_in.Given as goal

abbrev pub invariant-loop-left : goal.invariant-loop-left
invariant-loop-left l = record {
  names : l.names + names_in (map (λ part. part.now) l.left) ≡ names_in (map (λ part. part.now) l.row);
  within : l.names + length l.left ≤ length l.row;
}

abbrev pub decreases-loop-left : goal.decreases-loop-left
decreases-loop-left l = length l.left
