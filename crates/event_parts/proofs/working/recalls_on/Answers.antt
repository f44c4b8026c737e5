use Rattle.std.proofs.Common.{◌≡◌, refl, ap}
use Rattle.system_parts.specs.KeyRead.{next_of as next_after, reading_left}
use Rattle.system_parts.specs.Cache.{cache_learnt}
use Rattle.system_parts.specs.Recalled.{Remembering}
use Rattle.client_txn.specs.Remembering.{SessionParts}
use Rattle.event_parts.proofs.Recalls.{step_shows, step_said}
use Rattle.event_parts.proofs.working.recalls_on.Goals as goal

pub recall_all-requires-clause-shows : goal.recall_all-requires-clause-shows
recall_all-requires-clause-shows c = step_shows c.args.run.now.reading c.step-next.new.self c.args.answer c.step-next.result c.requires.answer c.step-next.ensures.run c.step-next.ensures.next

pub returns-clause-memory : goal.returns-clause-memory
returns-clause-memory c =
    step_said (λ (x : Remembering). c.recall_all.new.session ≡ record c.args.memory.now { cache = x.1 }) c.args.memory.now.cache (cache_learnt c.args.memory.now.cache c.learnt.result) c.args.run.now.reading c.step-next.new.self c.args.answer c.step-next.result c.learnt.result
    c.step-next.ensures.run c.step-next.ensures.next c.learnt.ensures refl (rw c.learn.ensures at c.recall_all.ensures.session)

pub returns-clause-run : goal.returns-clause-run
returns-clause-run c =
    step_said (λ (x : Remembering). c.recall_all.new.run.reading ≡ reading_left x.0) c.args.memory.now.cache c.learn.new.memory.cache c.args.run.now.reading c.step-next.new.self c.args.answer c.step-next.result c.learnt.result
    c.step-next.ensures.run c.step-next.ensures.next c.learnt.ensures (ap (λ (s : SessionParts). s.cache) c.learn.ensures) c.recall_all.ensures.run

pub returns-clause-next : goal.returns-clause-next
returns-clause-next c =
    step_said (λ (x : Remembering). c.recall_all.result ≡ next_after x.0) c.args.memory.now.cache c.learn.new.memory.cache c.args.run.now.reading c.step-next.new.self c.args.answer c.step-next.result c.learnt.result
    c.step-next.ensures.run c.step-next.ensures.next c.learnt.ensures (ap (λ (s : SessionParts). s.cache) c.learn.ensures) c.recall_all.ensures.next
