use Rattle.cluster_core.proofs.Names.{◌≡◌, drop, holder_from}
use Rattle.cluster_core.proofs.readers.holder_of.Given as goal

abbrev pub invariant-loop-i : goal.invariant-loop-i
invariant-loop-i l = holder_from 0 l.posts l.session ≡ holder_from l.i (drop l.i l.posts) l.session
