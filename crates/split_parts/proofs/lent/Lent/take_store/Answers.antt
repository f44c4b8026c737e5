use Rattle.split_parts.proofs.Names.{sym, take_asks, seen}
use Rattle.split_parts.proofs.RecordEvents.{asked_at}
use Rattle.split_parts.proofs.lent.Lent.take_store.Goals as goal

pub returns : goal.returns
returns c = λ reading. asked_at (seen c.args.self.now) c.args.node take_asks _ _ c.requires (sym c.in_ok-post.ensures) c.take_store.ensures
