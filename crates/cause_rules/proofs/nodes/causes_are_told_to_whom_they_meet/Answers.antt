use Rattle.cause_rules.proofs.WorkedActors.{busy_to_a_node, busy_to_a_session, conflict_to_a_node, conflict_to_the_writer, early_to_a_session, expired_to_a_node, full_to_the_node, gone_to_the_janitor, holding_to_a_session, no_oracle_to_a_node, no_oracle_to_another_node, no_oracle_to_the_clock, no_oracle_to_the_janitor, no_request_to_a_session, undecided_to_a_session}
use Rattle.cause_rules.proofs.nodes.causes_are_told_to_whom_they_meet.Goals as goal

pub returns : goal.returns
returns c = record {
  early_to_a_session = early_to_a_session;
  holding_to_a_session = holding_to_a_session;
  conflict_to_a_node = conflict_to_a_node;
  conflict_to_the_writer = conflict_to_the_writer;
  expired_to_a_node = expired_to_a_node;
  full_to_the_node = full_to_the_node;
  gone_to_the_janitor = gone_to_the_janitor;
  no_oracle_to_a_node = no_oracle_to_a_node;
  no_oracle_to_another_node = no_oracle_to_another_node;
  no_oracle_to_the_janitor = no_oracle_to_the_janitor;
  no_oracle_to_the_clock = no_oracle_to_the_clock;
  busy_to_a_session = busy_to_a_session;
  busy_to_a_node = busy_to_a_node;
  no_request_to_a_session = no_request_to_a_session;
  undecided_to_a_session = undecided_to_a_session;
}
