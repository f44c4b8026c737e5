use Rattle.std.proofs.Common.{sym, subst}
use Rattle.std.specs.Prelude.{OnOk}
use Rattle.trace_rules.specs.declared.wanted.Wanted.{Wanted}
use Rattle.trace_rules.specs.Wants.{asked_of}
use Rattle.asked_orders.specs.Joins.{moments_for}
use Rattle.asked_orders.specs.Laid.{StillJoined}
use Rattle.asked_orders.proofs.edges.lay_asked.Goals as goal

pub returns-in-Sessions-clause-joined : goal.returns-in-Sessions-clause-joined
returns-in-Sessions-clause-joined c =
    subst (λ (wanted : Wanted). OnOk c.lay_sessions.result (StillJoined c.args.level (asked_of wanted c.args.level c.args.times.now) (moments_for wanted c.args.level c.args.times.now) c.args.transactions.now c.args.nodes.starts c.args.nodes.points c.args.plan.now.moments.items c.args.edges.now.items c.lay_sessions.new.edges.items)) (sym c.in-Sessions.is)
    c.lay_sessions.ensures.joined
