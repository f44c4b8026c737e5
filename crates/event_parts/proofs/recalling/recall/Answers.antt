use Rattle.std.proofs.Common.{sym, ap}
use Rattle.client_txn.specs.Remembering.{SessionParts}
use Rattle.event_parts.proofs.Recalls.{recall_turns}
use Rattle.event_parts.proofs.recalling.recall.Goals as goal

pub returns-clause-comes : goal.returns-clause-comes
returns-clause-comes c = (recall_turns c.args.session.now.cache c.known-known.new.self.cache c.args.run.now c.recalled.new.self _ c.args.txn _ c.requires.shows (sym c.known-known.ensures.known) (ap (λ (s : SessionParts). s.cache) c.known-known.ensures.left) c.recalled.ensures.run c.recalled.ensures.next).0.comes

pub returns-clause-fewer : goal.returns-clause-fewer
returns-clause-fewer c = (recall_turns c.args.session.now.cache c.known-known.new.self.cache c.args.run.now c.recalled.new.self _ c.args.txn _ c.requires.shows (sym c.known-known.ensures.known) (ap (λ (s : SessionParts). s.cache) c.known-known.ensures.left) c.recalled.ensures.run c.recalled.ensures.next).0.fewer
