use Rattle.std.specs.Prelude.{◌≡◌, drop}
use Rattle.run_board.specs.Seating.{seated_of}
use Rattle.run_board.proofs.seated.searched_index.Given as goal

abbrev pub invariant-loop-index : goal.invariant-loop-index
invariant-loop-index l = seated_of (drop l.index l.seated) l.actor ≡ seated_of l.seated l.actor
