use Rattle.cause_rules.proofs.WorkedLosses.{crash_of_another, crashed_after_the_draw, crashed_before_the_ask, crashed_before_the_draw, fault_of_another, fault_of_the_record, fault_of_the_session, faulted, faulted_before_the_draw, neither, other_open}
use Rattle.cause_rules.proofs.commits.lost_commits_are_open.Goals as goal

pub returns : goal.returns
returns c = record {
  faulted = faulted;
  crashed_after_the_draw = crashed_after_the_draw;
  crashed_before_the_draw = crashed_before_the_draw;
  neither = neither;
  faulted_before_the_draw = faulted_before_the_draw;
  fault_of_another = fault_of_another;
  fault_of_the_record = fault_of_the_record;
  crashed_before_the_ask = crashed_before_the_ask;
  crash_of_another = crash_of_another;
  fault_of_the_session = fault_of_the_session;
  other_told = other_open;
}
