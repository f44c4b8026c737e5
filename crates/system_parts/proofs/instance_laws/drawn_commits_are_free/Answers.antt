use Rattle.system_parts.proofs.InstanceRecords.{drawn_free}
use Rattle.system_parts.proofs.instance_laws.drawn_commits_are_free.Goals as goal

pub returns : goal.returns
returns c = drawn_free
