use Rattle.std.specs.Prelude.{◌≡◌, ◌++◌, drop, take, vec_len}
use Rattle.run_board.specs.Making.{cleared}
use Rattle.run_board.proofs.making.clear_lacks.Given as goal

abbrev pub invariant-loop-number : goal.invariant-loop-number
invariant-loop-number l = record {
  cleared : l.lacking.items ≡ cleared (take l.number l.fn.lacking.items) ++ drop l.number l.fn.lacking.items;
  same : vec_len l.lacking ≡ vec_len l.fn.lacking;
}
