use Rattle.split_parts.proofs.Names.{refl, filled, seen}
use Rattle.split_parts.proofs.FoundParts.{sweeps_none}
use Rattle.split_parts.proofs.lent.Lent.sweep_fits.Goals as goal

pub returns-in-None : goal.returns-in-None
returns-in-None c = (λ _. rw c.in-None.is (sweeps_none (filled (seen c.args.self.now)).sweep), λ all. refl)
