use Rattle.cause_rules.proofs.WorkedRequests.{above_the_start, at_the_start, not_drawn, other_term, placed_by_sessions, placed_since, unplaced_below}
use Rattle.cause_rules.proofs.WorkedUnasked.{not_yet_unasked}
use Rattle.cause_rules.proofs.requests.begins_wait_for_commits_below.Goals as goal

pub returns : goal.returns
returns c = record {
  unplaced = unplaced_below;
  placed = placed_since;
  above_the_start = above_the_start;
  at_the_start = at_the_start;
  other_term = other_term;
  not_drawn = not_drawn;
  not_asked = not_yet_unasked;
  placed_by_sessions = placed_by_sessions;
}
