use Rattle.cause_rules.proofs.WorkedFull.{all_taken, another_crashed, at_two_nodes, begin_answered, commit_answered, commit_handed, crashed_since, fewer_asks, more_slots, refused_for_good, taken_again}
use Rattle.cause_rules.proofs.requests.full_nodes_have_open_asks.Goals as goal

pub returns : goal.returns
returns c = record {
  all_taken = all_taken;
  taken_again = taken_again;
  another_crashed = another_crashed;
  begin_answered = begin_answered;
  begin_refused = refused_for_good;
  commit_answered = commit_answered;
  commit_handed = commit_handed;
  crashed = crashed_since;
  at_two_nodes = at_two_nodes;
  fewer_than_slots = fewer_asks;
  more_slots = more_slots;
}
