use Rattle.cell_store.proofs.Fronts.{IsFrontBehind}
use Rattle.cell_store.proofs.key_list.front.Given as goal

abbrev pub invariant-loop-first : goal.invariant-loop-first
invariant-loop-first l = IsFrontBehind l.start l.cells l.first
