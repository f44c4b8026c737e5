use Rattle.split_parts.proofs.Names.{sym, arith, IsTrue, HasAskedAt, seen}
use Rattle.split_parts.proofs.FoundParts.{of_both}
use Rattle.split_parts.proofs.lent.Lent.request_fits.Goals as goal

pub returns : goal.returns
returns c = of_both (seen c.args.self.now) c.args.node c.args.session c.in-Some-post.post.now c.in-Some.client.now (IsTrue c.has_asked.result) (λ p d. HasAskedAt p c.args.session d.entry) (grind arith) c.requires.1 (sym c.in-Some.ensures) (sym c.in-Some-post.ensures) c.has_asked.ensures
