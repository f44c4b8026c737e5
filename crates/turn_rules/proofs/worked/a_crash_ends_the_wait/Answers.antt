use Rattle.turn_rules.proofs.WorkedTurns.{begin_waits, name_is_awaited, whole_items, whole_places}
use Rattle.turn_rules.proofs.worked.a_crash_ends_the_wait.Goals as goal

pub returns-clause-begin : goal.returns-clause-begin
returns-clause-begin c = begin_waits

pub returns-clause-name : goal.returns-clause-name
returns-clause-name c = name_is_awaited

pub returns-clause-history : goal.returns-clause-history
returns-clause-history c = whole_items

pub returns-clause-passed : goal.returns-clause-passed
returns-clause-passed c = whole_places
