use Rattle.std.specs.Prelude.{◌≡◌, ◌+◌, sum_by, vec_len}
use Rattle.thread_steps.proofs.share.gather.Given as goal

abbrev pub invariant-loop-share : goal.invariant-loop-share
invariant-loop-share g l = record {
  parts : l.all.parts + vec_len l.shares ≡ l.fn.all.parts + vec_len l.fn.shares;
  amount : l.all.amount + sum_by (λ s. s.amount) l.shares.items ≡ l.fn.all.amount + sum_by (λ s. s.amount) l.fn.shares.items;
}

abbrev pub decreases-loop-share : goal.decreases-loop-share
decreases-loop-share g l = goal.left-loop-share g l
