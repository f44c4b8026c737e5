use Rattle.run_board.proofs.OthersSit.{others_stay_seated}
use Rattle.run_board.proofs.laws.others_stay_seated.Goals as goal

pub returns : goal.returns
returns c = others_stay_seated
