use Rattle.run_board.proofs.Further.{advances_go_further}
use Rattle.run_board.proofs.laws.advances_go_further.Goals as goal

pub returns : goal.returns
returns c = advances_go_further
