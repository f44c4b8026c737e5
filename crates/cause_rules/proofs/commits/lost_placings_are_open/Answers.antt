use Rattle.cause_rules.proofs.WorkedPlacings.{crashed_before_the_draw, fault_of_another, fault_of_the_node, faulted, faulted_before_the_draw}
use Rattle.cause_rules.proofs.commits.lost_placings_are_open.Goals as goal

pub returns : goal.returns
returns c = record {
  faulted = faulted;
  crashed_before_the_draw = crashed_before_the_draw;
  fault_of_the_node = fault_of_the_node;
  fault_of_another = fault_of_another;
  faulted_before_the_draw = faulted_before_the_draw;
}
