use Rattle.std.proofs.Common.{sym, subst}
use Rattle.std.specs.Prelude.{Some}
use Rattle.reply_pipeline.specs.Requesting.{MayEnter}
use Rattle.reply_pipeline.proofs.RequestLemmas.{may_receive, has_received, has_passed, has_ticket}
use Rattle.reply_pipeline.proofs.request.receive.Goals as goal

pub receive-requires : goal.receive-requires
receive-requires g c = may_receive c.args.desk.now.queues.now c.args.desk.now.node c.args.pass.now c.requests.result.now c.requires c.requests.ensures

pub returns-in-Some-clause-pass : goal.returns-in-Some-clause-pass
returns-in-Some-clause-pass g c = has_received c.args.desk.now.queues.now c.args.desk.now.node c.args.pass.now c.receive.new.pass c.requests.result.now c.requires c.requests.ensures c.receive.result c.receive.ensures.rest c.receive.ensures.taken

pub returns-in-None-clause-pass : goal.returns-in-None-clause-pass
returns-in-None-clause-pass g c = has_received c.args.desk.now.queues.now c.args.desk.now.node c.args.pass.now c.receive.new.pass c.requests.result.now c.requires c.requests.ensures c.receive.result c.receive.ensures.rest c.receive.ensures.taken

pub returns-in-Some-clause-passed : goal.returns-in-Some-clause-passed
returns-in-Some-clause-passed g c = has_passed c.args.desk.now.queues.now c.args.desk.now.node c.args.pass.now c.receive.new.pass c.requests.result.now c.requires c.requests.ensures c.receive.result c.receive.ensures.rest c.receive.ensures.taken

pub returns-in-None-clause-passed : goal.returns-in-None-clause-passed
returns-in-None-clause-passed g c = has_passed c.args.desk.now.queues.now c.args.desk.now.node c.args.pass.now c.receive.new.pass c.requests.result.now c.requires c.requests.ensures c.receive.result c.receive.ensures.rest c.receive.ensures.taken

pub returns-in-Some-clause-may_enter : goal.returns-in-Some-clause-may_enter
returns-in-Some-clause-may_enter g c =
    subst (λ t. MayEnter c.args.desk.now.queues.now c.args.desk.now.node t c.args.pass.now c.receive.new.pass) (sym c.of.ensures)
    (has_ticket c.args.desk.now.queues.now c.args.desk.now.node c.args.pass.now c.receive.new.pass c.requests.result.now c.requires c.requests.ensures (Some c.in-Some.ticket) c.in-Some.ensures.rest c.in-Some.ensures.taken)
