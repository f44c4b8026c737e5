use Rattle.cause_rules.proofs.WorkedLosses.{another_crashed, another_told, crashed, crashed_earlier, not_crashed, other_term}
use Rattle.cause_rules.proofs.requests.lost_begins_crashed.Goals as goal

pub returns : goal.returns
returns c = record {
  crashed = crashed;
  not_crashed = not_crashed;
  before_the_ask = crashed_earlier;
  crash_of_another = another_crashed;
  another_told = another_told;
  other_term = other_term;
}
