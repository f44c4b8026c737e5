use Rattle.turn_rules.proofs.Answered.{turns_answer}
use Rattle.turn_rules.proofs.laws.turns_answer.Goals as goal

pub returns : goal.returns
returns c = turns_answer
