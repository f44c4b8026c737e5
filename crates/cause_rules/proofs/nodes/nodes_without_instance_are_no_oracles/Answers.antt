use Rattle.cause_rules.proofs.WorkedNodes.{another_crashed, another_failed, call_failed_later, crashed_since, never_taken, take_failed, taken, taken_after_crash}
use Rattle.cause_rules.proofs.nodes.nodes_without_instance_are_no_oracles.Goals as goal

pub returns : goal.returns
returns c = record {
  never_taken = never_taken;
  crashed = crashed_since;
  take_failed = take_failed;
  taken = taken;
  taken_after_a_crash = taken_after_crash;
  call_failed_later = call_failed_later;
  crash_of_another = another_crashed;
  fault_of_another = another_failed;
}
