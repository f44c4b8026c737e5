use Rattle.run_board.proofs.Names.{take, AreSeatedFirst}
use Rattle.run_board.proofs.seated.all_seated.Given as goal

abbrev pub invariant-loop-line : goal.invariant-loop-line
invariant-loop-line l = AreSeatedFirst l.nodes (take l.line-index l.lines) l.all.items
