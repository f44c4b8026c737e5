use Rattle.omid_top.proofs.CommandLemmas.{settled_codes}
use Rattle.omid_top.proofs.split.split_script.Goals as goal

pub returns-in-Ok-clause-codes : goal.returns-in-Ok-clause-codes
returns-in-Ok-clause-codes g c = settled_codes _ c.told.ensures.codes
