use Rattle.grant_laws.proofs.StuckRuns.{stuck_runs_wait}
use Rattle.grant_laws.proofs.waiting.stuck_runs_wait.Goals as goal

pub returns : goal.returns
returns c = stuck_runs_wait c.own_turns_are_told.ensures c.stage_turns_are_told.ensures c.turns_keep_facts.ensures
