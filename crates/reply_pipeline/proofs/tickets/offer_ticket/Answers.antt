use Rattle.std.proofs.Common.{subst}
use Rattle.reply_pipeline.specs.Seats.{SendsOrGivesBack}
use Rattle.reply_pipeline.proofs.TicketLemmas.{may_send, has_sent, sent_to}
use Rattle.reply_pipeline.proofs.tickets.offer_ticket.Goals as goal

pub send-sent-requires : goal.send-sent-requires
send-sent-requires g c = may_send c.args.queues.now c.args.node c.args.pass.now c.requires.pass c.requires.node c.requests.result.now c.requests.ensures

pub returns-in-Ok-clause-sent : goal.returns-in-Ok-clause-sent
returns-in-Ok-clause-sent g c = subst (SendsOrGivesBack c.args.node c.args.ticket c.args.pass.now c.send-sent.new.pass) c.in-Ok.is (sent_to c.args.queues.now c.args.node c.args.pass.now c.requires.pass c.requires.node c.requests.result.now c.requests.ensures c.args.ticket c.send-sent.new.pass c.send-sent.result c.send-sent.ensures.put)

pub returns-in-Ok-clause-pass : goal.returns-in-Ok-clause-pass
returns-in-Ok-clause-pass g c = (has_sent c.args.queues.now c.args.node c.args.pass.now c.requires.pass c.requires.node c.requests.result.now c.requests.ensures c.args.ticket c.send-sent.new.pass c.send-sent.result c.send-sent.ensures.put).0

pub returns-in-Ok-clause-held : goal.returns-in-Ok-clause-held
returns-in-Ok-clause-held g c = (has_sent c.args.queues.now c.args.node c.args.pass.now c.requires.pass c.requires.node c.requests.result.now c.requests.ensures c.args.ticket c.send-sent.new.pass c.send-sent.result c.send-sent.ensures.put).1

pub returns-in-Err-clause-sent : goal.returns-in-Err-clause-sent
returns-in-Err-clause-sent g c = subst (SendsOrGivesBack c.args.node c.args.ticket c.args.pass.now c.send-sent.new.pass) c.in-Err.is (sent_to c.args.queues.now c.args.node c.args.pass.now c.requires.pass c.requires.node c.requests.result.now c.requests.ensures c.args.ticket c.send-sent.new.pass c.send-sent.result c.send-sent.ensures.put)

pub returns-in-Err-clause-pass : goal.returns-in-Err-clause-pass
returns-in-Err-clause-pass g c = (has_sent c.args.queues.now c.args.node c.args.pass.now c.requires.pass c.requires.node c.requests.result.now c.requests.ensures c.args.ticket c.send-sent.new.pass c.send-sent.result c.send-sent.ensures.put).0

pub returns-in-Err-clause-held : goal.returns-in-Err-clause-held
returns-in-Err-clause-held g c = (has_sent c.args.queues.now c.args.node c.args.pass.now c.requires.pass c.requires.node c.requests.result.now c.requests.ensures c.args.ticket c.send-sent.new.pass c.send-sent.result c.send-sent.ensures.put).1
