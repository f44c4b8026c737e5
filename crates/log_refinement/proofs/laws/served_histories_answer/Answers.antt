use Rattle.log_refinement.proofs.ServedAnswers as served
use Rattle.log_refinement.proofs.laws.served_histories_answer.Goals as goal

pub returns : goal.returns
returns c = served.served_histories_answer
