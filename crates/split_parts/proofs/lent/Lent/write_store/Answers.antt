use Rattle.split_parts.proofs.Names.{sym, arith, seen}
use Rattle.split_parts.proofs.Directly.{write_asked}
use Rattle.split_parts.proofs.lent.Lent.write_store.Goals as goal

pub returns : goal.returns
returns c = λ value. write_asked (seen c.args.self.now) c.args.session c.args.key value _ _ (grind arith) (sym c.in_ok-client.ensures) c.write_store.ensures
