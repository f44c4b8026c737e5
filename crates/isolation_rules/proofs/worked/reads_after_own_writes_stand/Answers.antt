use Rattle.isolation_rules.proofs.WorkedSkew.{own_read_stands, earlier_read_falls}
use Rattle.isolation_rules.proofs.worked.reads_after_own_writes_stand.Goals as goal

pub returns : goal.returns
returns c = record { after = own_read_stands; before = earlier_read_falls }
