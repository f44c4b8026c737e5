use Rattle.split_parts.proofs.Names.{sym, arith, seen}
use Rattle.split_parts.proofs.Directly.{step_asked}
use Rattle.split_parts.proofs.lent.Lent.next_store.Goals as goal

pub returns : goal.returns
returns c = step_asked (seen c.args.self.now) c.args.session _ _ (grind arith) (sym c.in_ok-client.ensures) c.next_store.ensures
