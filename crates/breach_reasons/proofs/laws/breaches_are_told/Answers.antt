use Rattle.breach_reasons.proofs.WriteTold.{shared_told}
use Rattle.breach_reasons.proofs.AnswerTold.{right_told}
use Rattle.breach_reasons.proofs.AskTold.{ask_told}
use Rattle.breach_reasons.proofs.laws.breaches_are_told.Goals as goal

pub returns-clause-shared : goal.returns-clause-shared
returns-clause-shared c = shared_told

pub returns-clause-right : goal.returns-clause-right
returns-clause-right c = right_told

pub returns-clause-ask : goal.returns-clause-ask
returns-clause-ask c = ask_told
