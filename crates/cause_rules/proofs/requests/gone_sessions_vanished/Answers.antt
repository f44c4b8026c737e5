use Rattle.cause_rules.proofs.WorkedRequests.{another_vanished, vanished, vanished_later}
use Rattle.cause_rules.proofs.requests.gone_sessions_vanished.Goals as goal

pub returns : goal.returns
returns c = record {
  vanished = vanished;
  another_vanished = another_vanished;
  vanished_later = vanished_later;
}
