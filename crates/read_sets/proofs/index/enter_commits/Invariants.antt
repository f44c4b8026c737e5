use Rattle.read_sets.specs.Index.{KeepsTriples}
use Rattle.read_sets.proofs.IndexLemmas.{IsEnteredBut, own_commits}
use Rattle.read_sets.proofs.index.enter_commits.Given as goal

abbrev pub invariant-loop-pair : goal.invariant-loop-pair
invariant-loop-pair l = record {
  entered : IsEnteredBut (own_commits l.placed l.txn) l.pair-iterator l.key l.txn l.commits;
  kept : KeepsTriples l.fn.commits l.commits;
}
