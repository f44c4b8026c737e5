use Rattle.split_parts.proofs.Names.{sym, arith, IfSome, IsTrue, HasOnly, Client, offer_of, filled, seen}
use Rattle.split_parts.proofs.FoundParts.{of_client}
use Rattle.split_parts.proofs.lent.Lent.heal_fits.Goals as goal

pub returns-in-Some-cells : goal.returns-in-Some-cells
returns-in-Some-cells c = of_client (seen c.args.self.now) c.args.session c.in-Some.client.now (IsTrue c.heals_only.result) (λ (d : Client). IfSome (offer_of d) (λ offer. HasOnly (filled (seen c.args.self.now)).rows offer.0 offer.1 offer.2)) (grind arith) (sym c.in-Some.ensures) (rw c.in-Some-cells.is c.heals_only.ensures)
