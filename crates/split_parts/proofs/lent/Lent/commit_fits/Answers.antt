use Rattle.split_parts.proofs.Names.{◌≡◌, sym, arith, IsTrue, Open, HoldsNone, node_asked, seen}
use Rattle.split_parts.proofs.FoundParts.{of_turned}
use Rattle.split_parts.proofs.lent.Lent.commit_fits.Goals as goal

pub returns : goal.returns
returns c = of_turned (seen c.args.self.now) (node_asked (seen c.args.self.now) c.args.target) c.args.session c.in-Some-post.post.now c.in-Some.client.now (IsTrue c.holds_none_in.result) (λ d p. d.entry.state ≡ Open → HoldsNone p c.args.session) (grind arith) c.requires.1 (sym c.in-Some.ensures) (sym c.in-Some-post.ensures) c.holds_none_in.ensures
