use Rattle.cell_compaction.proofs.SmallStores.{shadowed_rests, recorded_rests, untold_is_refused, gone_is_refused, other_value_is_refused, no_commit_is_refused}
use Rattle.cell_compaction.proofs.worked.commits_have_their_rows.Goals as goal

pub returns-clause-shadowed : goal.returns-clause-shadowed
returns-clause-shadowed c = shadowed_rests

pub returns-clause-recorded : goal.returns-clause-recorded
returns-clause-recorded c = recorded_rests

pub returns-clause-untold : goal.returns-clause-untold
returns-clause-untold c = untold_is_refused

pub returns-clause-gone : goal.returns-clause-gone
returns-clause-gone c = gone_is_refused

pub returns-clause-other_value : goal.returns-clause-other_value
returns-clause-other_value c = other_value_is_refused

pub returns-clause-no_commit : goal.returns-clause-no_commit
returns-clause-no_commit c = no_commit_is_refused
