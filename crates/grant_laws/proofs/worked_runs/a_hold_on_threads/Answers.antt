use Rattle.grant_laws.proofs.WorkedHolds.{held_stuck, stands_held, put_lawful}
use Rattle.grant_laws.proofs.worked_runs.a_hold_on_threads.Goals as goal

pub returns-clause-stuck : goal.returns-clause-stuck
returns-clause-stuck c = held_stuck

pub returns-clause-waits : goal.returns-clause-waits
returns-clause-waits c = stands_held

pub returns-clause-goes_on : goal.returns-clause-goes_on
returns-clause-goes_on c = put_lawful
