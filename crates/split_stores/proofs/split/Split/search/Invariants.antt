use Rattle.std.specs.Prelude.{◌≡◌, None}
use Rattle.split_stores.proofs.split.Split.search.Given as goal

abbrev pub invariant-loop-node : goal.invariant-loop-node
invariant-loop-node g l = (l.seen.session ≡ l.fn.session) × (l.seen.nodes ≡ l.node-index) × (l.seen.found ≡ None)
