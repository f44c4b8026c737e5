use Rattle.split_parts.proofs.Names.{refl, arith, seen}
use Rattle.split_parts.proofs.FoundParts.{asked_by_all}
use Rattle.split_parts.proofs.lent.Lent.crash_fits.Goals as goal

pub returns : goal.returns
returns c = (λ _. asked_by_all (seen c.args.self.now) c.args.node (λ session few. c.loop-number.invariant session (grind (arith, few))), λ all. refl)
