use Rattle.cell_compaction.proofs.SmallStores.{read_at_five, read_at_four, read_at_two, read_bare}
use Rattle.cell_compaction.proofs.worked.readers_find_the_latest_row.Goals as goal

pub returns-clause-latest : goal.returns-clause-latest
returns-clause-latest c = read_at_five

pub returns-clause-at_its_commit : goal.returns-clause-at_its_commit
returns-clause-at_its_commit c = read_at_four

pub returns-clause-none : goal.returns-clause-none
returns-clause-none c = read_at_two

pub returns-clause-uncommitted : goal.returns-clause-uncommitted
returns-clause-uncommitted c = read_bare
