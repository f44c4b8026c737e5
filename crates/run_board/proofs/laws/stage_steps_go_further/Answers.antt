use Rattle.run_board.proofs.Further.{stage_steps_go_further}
use Rattle.run_board.proofs.laws.stage_steps_go_further.Goals as goal

pub returns : goal.returns
returns c = stage_steps_go_further
