use Rattle.std.proofs.Common.{ap, sym, ◌∙◌, subst}
use Rattle.reply_pipeline.specs.Requesting.{IsRequesting, IsServed}
use Rattle.reply_pipeline.specs.Telling.{drawn_in}
use Rattle.reply_pipeline.proofs.request.fill.Goals as goal

pub returns-in_default-clause-gathered : goal.returns-in_default-clause-gathered
returns-in_default-clause-gathered g c = c.receive.ensures.passed c.loop.batch.number 1 c.loop.batch.batch.entries c.loop.invariant.0

pub returns-in_err-entry-clause-gathered : goal.returns-in_err-entry-clause-gathered
returns-in_err-entry-clause-gathered g c = c.receive.ensures.passed c.loop.batch.number 1 c.loop.batch.batch.entries c.loop.invariant.0

pub loop-preserved-in-Drawn : goal.loop-preserved-in-Drawn
loop-preserved-in-Drawn g c =
    let of = subst (IsServed c.in-Some-receive.ticket) c.in-Drawn.is c.in_ok-entry.ensures.served in
    let more = c.in-Some-receive.ensures.may_enter c.in-Drawn.entry of c.loop.batch.number 1 c.loop.batch.batch.entries c.loop.invariant.0 in (
      subst (λ b. IsRequesting c.args.desk.now.queues.now c.args.desk.now.node c.loop.batch.number 1 b.entries c.receive.new.pass) (sym c.enter.ensures.entered) more,
      c.loop.invariant.1,
      c.enter.ensures.none,
    )

pub loop-preserved : goal.loop-preserved
loop-preserved g c = (c.receive.ensures.passed c.loop.batch.number 1 c.loop.batch.batch.entries c.loop.invariant.0, c.loop.invariant.1, c.in_ok-entry.ensures.drawn ∙ ap drawn_in c.in-Ended.is)

pub returns-in-Held-clause-gathered : goal.returns-in-Held-clause-gathered
returns-in-Held-clause-gathered g c = c.receive.ensures.passed c.loop.batch.number 1 c.loop.batch.batch.entries c.loop.invariant.0

pub returns-in-Held-clause-left : goal.returns-in-Held-clause-left
returns-in-Held-clause-left g c = λ entry of.
    let same = subst (IsServed c.in-Some-receive.ticket) c.in-Held.is c.in_ok-entry.ensures.served in
    c.in-Some-receive.ensures.may_enter entry (of ∙ same) c.loop.batch.number 1 c.loop.batch.batch.entries c.loop.invariant.0
