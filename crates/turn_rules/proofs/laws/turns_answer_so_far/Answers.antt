use Rattle.turn_rules.proofs.Answered.{turns_answer_so_far}
use Rattle.turn_rules.proofs.laws.turns_answer_so_far.Goals as goal

pub returns : goal.returns
returns c = turns_answer_so_far
