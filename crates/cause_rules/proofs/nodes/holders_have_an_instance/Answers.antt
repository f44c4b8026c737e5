use Rattle.cause_rules.proofs.WorkedNodes.{another_holds, held_the_earlier_term, holds, holds_another_term, holds_past_another_crash, holds_the_later_term, lost_by_a_crash}
use Rattle.cause_rules.proofs.nodes.holders_have_an_instance.Goals as goal

pub returns : goal.returns
returns c = record {
  holds = holds;
  crash_of_another = holds_past_another_crash;
  later_term = holds_the_later_term;
  crashed = lost_by_a_crash;
  earlier_term = held_the_earlier_term;
  other_term = holds_another_term;
  another_node = another_holds;
}
