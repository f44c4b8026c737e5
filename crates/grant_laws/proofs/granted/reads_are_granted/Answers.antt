use Rattle.grant_laws.proofs.BareReads.{bare_reads_end}
use Rattle.grant_laws.proofs.FetchLines.{reads_are_granted}
use Rattle.grant_laws.proofs.ShortReads.{reads_are_short}
use Rattle.grant_laws.proofs.granted.reads_are_granted.Goals as goal

pub returns-clause-granted : goal.returns-clause-granted
returns-clause-granted c = reads_are_granted c.events_lower_what_is_left.ensures c.scripts_are_planned.ensures (bare_reads_end c.recalled_reads_end.ensures)

pub returns-clause-short : goal.returns-clause-short
returns-clause-short c = reads_are_short c.events_lower_what_is_left.ensures c.scripts_are_planned.ensures
