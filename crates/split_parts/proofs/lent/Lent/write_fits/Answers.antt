use Rattle.split_parts.proofs.Names.{◌≡◌, sym, arith, IfSome, IsTrue, IsBare, Open, Client, filled, seen}
use Rattle.split_parts.proofs.FoundParts.{of_client}
use Rattle.split_parts.proofs.lent.Lent.write_fits.Goals as goal

pub returns-in-Some-cells : goal.returns-in-Some-cells
returns-in-Some-cells c = of_client (seen c.args.self.now) c.args.session c.in-Some.client.now (IsTrue c.writes_bare.result) (λ (d : Client). d.entry.state ≡ Open → IfSome d.entry.start (λ start. IsBare (filled (seen c.args.self.now)).rows c.args.key start)) (grind arith) (sym c.in-Some.ensures) (rw c.in-Some-cells.is c.writes_bare.ensures)
