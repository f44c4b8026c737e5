use Rattle.trace_rules.proofs.WorkedTraces.{skew_isolated, skew_not_serial, skew_not_in_session}
use Rattle.trace_rules.proofs.worked.write_skew_tells_levels_apart.Goals as goal

pub returns-clause-snapshot : goal.returns-clause-snapshot
returns-clause-snapshot c = skew_isolated

pub returns-clause-serial : goal.returns-clause-serial
returns-clause-serial c = skew_not_serial

pub returns-clause-session : goal.returns-clause-session
returns-clause-session c = skew_not_in_session
