use Rattle.split_parts.proofs.Names.{sym, subst, Event, asks, CanMake, CallsFit, filled, seen}
use Rattle.split_parts.proofs.Agreement.{calls_fit, can_make}
use Rattle.split_parts.proofs.acting.act.Goals as goal

pub act_timed-requires-clause-calls : goal.act_timed-requires-clause-calls
act_timed-requires-clause-calls c = subst (λ (e : Event). CallsFit (seen c.args.lent.now) (asks (filled (seen c.args.lent.now)) e)) (sym c.timed-timed.ensures.event) (calls_fit (seen c.args.lent.now) c.args.event.now c.requires.calls)

pub act_timed-requires-clause-can : goal.act_timed-requires-clause-can
act_timed-requires-clause-can c = subst (λ (e : Event). CanMake (filled (seen c.args.lent.now)) e) (sym c.timed-timed.ensures.event) (can_make (seen c.args.lent.now) c.args.event.now c.requires c.timed-timed.ensures.leads)
