use Rattle.history_json.proofs.OneHistory.{one_history, items_are_not_bad}
use Rattle.history_json.proofs.laws.one_history.Goals as goal

pub returns-clause-one : goal.returns-clause-one
returns-clause-one c = one_history

pub returns-clause-either : goal.returns-clause-either
returns-clause-either c = items_are_not_bad
