use Rattle.cell_compaction.proofs.SmallStores.{kept_at_one, kept_at_five, kept_at_eight, kept_record}
use Rattle.cell_compaction.proofs.worked.rows_below_the_water_go.Goals as goal

pub returns-clause-low : goal.returns-clause-low
returns-clause-low c = kept_at_one

pub returns-clause-between : goal.returns-clause-between
returns-clause-between c = kept_at_five

pub returns-clause-high : goal.returns-clause-high
returns-clause-high c = kept_at_eight

pub returns-clause-recorded : goal.returns-clause-recorded
returns-clause-recorded c = kept_record
