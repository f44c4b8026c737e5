use Rattle.std.proofs.Common.{◌≡◌, replicate, None}
use Rattle.cluster_core.proofs.engine.vacant_posts.Given as goal

abbrev pub invariant-loop-i : goal.invariant-loop-i
invariant-loop-i l = l.posts.items ≡ replicate l.i None
