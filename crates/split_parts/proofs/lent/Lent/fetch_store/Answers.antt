use Rattle.split_parts.proofs.Names.{sym, arith, seen}
use Rattle.split_parts.proofs.Directly.{fetch_asked}
use Rattle.split_parts.proofs.lent.Lent.fetch_store.Goals as goal

pub returns : goal.returns
returns c = fetch_asked (seen c.args.self.now) c.args.session c.args.key _ _ _ (grind arith) (sym c.in_ok-client.ensures) c.setup-setup.ensures c.fetch_store.ensures
