use Rattle.read_sets.proofs.IndexLemmas.{IsOwnBut, between_stamps}
use Rattle.read_sets.proofs.index.is_between.Given as goal

abbrev pub invariant-loop-version : goal.invariant-loop-version
invariant-loop-version l = IsOwnBut (between_stamps l.commits l.key l.start l.last 18446744073709551615) l.version-iterator l.start
