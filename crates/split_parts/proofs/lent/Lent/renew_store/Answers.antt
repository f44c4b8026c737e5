use Rattle.split_parts.proofs.Names.{sym, ◌∙◌, extend_asks, renew_asks, seen}
use Rattle.split_parts.proofs.RecordEvents.{as_renewed, asked_at}
use Rattle.split_parts.proofs.lent.Lent.renew_store.Goals as goal

pub returns-clause-renew : goal.returns-clause-renew
returns-clause-renew c = λ reading. asked_at (seen c.args.self.now) c.args.node renew_asks _ _ c.requires (sym c.in_ok-post.ensures) c.record_store.ensures

pub returns-clause-extend : goal.returns-clause-extend
returns-clause-extend c = asked_at (seen c.args.self.now) c.args.node extend_asks _ _ c.requires (sym c.in_ok-post.ensures) (c.record_store.ensures ∙ as_renewed _)
