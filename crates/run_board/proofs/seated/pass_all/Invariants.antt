use Rattle.run_board.proofs.Names.{take, map, vec_len, clocks_at, after_passing}
use Rattle.std.specs.Prelude.{◌≡◌, ◌++◌, drop}
use Rattle.run_board.proofs.seated.pass_all.Given as goal

abbrev pub invariant-loop-number : goal.invariant-loop-number
invariant-loop-number l = record {
  passed : l.seated.items ≡ map (after_passing (clocks_at l.planned.cluster l.planned.clock l.leads) l.planned.cluster.state) (take l.number l.fn.seated.items) ++ drop l.number l.fn.seated.items;
  same : vec_len l.seated ≡ vec_len l.fn.seated;
}
