use Rattle.system_parts.proofs.InstanceRecords.{new_records, call_records}
use Rattle.system_parts.proofs.instance_laws.recorded_commits_rise.Goals as goal

pub returns-clause-granted : goal.returns-clause-granted
returns-clause-granted c = new_records

pub returns-clause-kept : goal.returns-clause-kept
returns-clause-kept c = call_records
