use Rattle.master_beacon.proofs.RuleKept.{words_fit, opens}
use Rattle.master_beacon.proofs.beacon.Beacon.open.Goals as goal

pub ruled-requires : goal.ruled-requires
ruled-requires c = (words_fit.0, (words_fit.1, opens))
