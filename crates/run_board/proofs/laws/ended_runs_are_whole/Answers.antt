use Rattle.run_board.proofs.AllEnded.{ended_runs_are_whole}
use Rattle.run_board.proofs.laws.ended_runs_are_whole.Goals as goal

pub returns : goal.returns
returns c = ended_runs_are_whole
