use Rattle.split_parts.proofs.Names.{sym, seen}
use Rattle.split_parts.proofs.Directly.{put_asked}
use Rattle.split_parts.proofs.lent.Lent.put_store.Goals as goal

pub returns : goal.returns
returns c = put_asked (seen c.args.self.now) c.args.node c.args.session _ _ c.requires (sym c.in_ok-post.ensures) c.put_store.ensures
