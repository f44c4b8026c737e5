use Rattle.grant_laws.proofs.BareReads.{bare_reads_end}
use Rattle.grant_laws.proofs.ShortReads.{reads_on_threads_are_short}
use Rattle.grant_laws.proofs.WholeReads.{runs_grant_reads}
use Rattle.grant_laws.proofs.runs.runs_grant_reads.Goals as goal

pub returns-clause-granted : goal.returns-clause-granted
returns-clause-granted c = runs_grant_reads (bare_reads_end c.recalled_reads_end.ensures)

pub returns-clause-short : goal.returns-clause-short
returns-clause-short c = reads_on_threads_are_short c.turns_are_planned_so_far.ensures
