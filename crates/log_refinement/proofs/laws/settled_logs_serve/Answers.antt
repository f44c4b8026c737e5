use Rattle.log_refinement.proofs.SettledLogs as settled
use Rattle.log_refinement.proofs.laws.settled_logs_serve.Goals as goal

pub returns : goal.returns
returns c = settled.settled_logs_serve (record {
  first = c.ends_at_first.ensures;
  keeps = c.events_keep_ends.ensures;
  turns = c.session_turns.ensures;
  begins = c.begins_are_asked.ensures;
  asks = c.asks_are_turns.ensures;
  lost = c.lost_asks_are_over.ensures;
  silent = c.silent_answers_repeat.ensures;
  stays = c.over_stays_over.ensures;
  closed = c.closed_asks_are_over.ensures;
}) c.events_stay_told.ensures c.settled_by_plans.ensures
