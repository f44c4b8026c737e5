use Rattle.std.specs.Prelude.{◌≡◌}
use Rattle.session_script.specs.Script.{data_of}
use Rattle.run_driver.proofs.rest.finish.Given as goal

abbrev pub invariant-loop : goal.invariant-loop
invariant-loop g l = data_of l.board.script ≡ data_of l.fn.board.script
