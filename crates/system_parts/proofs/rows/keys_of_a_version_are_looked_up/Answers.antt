use Rattle.system_parts.proofs.RowVersions.{Contains-keys_of_version, keys_of_version-ascend}
use Rattle.system_parts.proofs.rows.keys_of_a_version_are_looked_up.Goals as goal

pub returns : goal.returns
returns c = record { keys = Contains-keys_of_version; ascending = keys_of_version-ascend }
