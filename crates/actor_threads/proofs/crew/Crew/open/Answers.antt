use Rattle.std.proofs.Common.{◌-◌, arith}
use Rattle.actor_threads.proofs.CrewLemmas.{enough, crew_stages, crew_count, crew_senders}
use Rattle.actor_threads.proofs.crew.Crew.open.Goals as goal

pub overflow_sub-len : goal.overflow_sub-len
overflow_sub-len c =
    let h = c.in_ok-queues.ensures in
    let some = enough c.in_ok-queues.queues c.args.setup.now.nodes c.args.setup.now.workers c.args.actors c.in_ok-queues.stages.items h.nodes h.passes in
    omega (arith, some, c.len.ensures, c.in_ok-queues.stages.ok)

pub returns-clause-stages : goal.returns-clause-stages
returns-clause-stages c =
    let h = c.in_ok-queues.ensures in
    crew_stages c.in_ok-queues.queues c.args.setup.now.nodes c.args.setup.now.workers c.args.actors c.in_ok-queues.stages.items h.nodes h.passes (c.len.result - c.args.actors) (omega (arith, c.len.ensures, c.in_ok-queues.stages.ok))
    c.split_off.new.self.items h.numbered h.new c.in_ok-senders.ensures.items

pub returns-clause-senders : goal.returns-clause-senders
returns-clause-senders c =
    let h = c.in_ok-queues.ensures in
    crew_senders c.in_ok-queues.queues c.args.setup.now.nodes c.args.setup.now.workers c.args.actors c.in_ok-queues.stages.items h.nodes h.passes (c.len.result - c.args.actors) (omega (arith, c.len.ensures, c.in_ok-queues.stages.ok))
    c.in_ok-senders.senders.items c.in_ok-senders.ensures.tail

pub returns-clause-count : goal.returns-clause-count
returns-clause-count c =
    let h = c.in_ok-queues.ensures in
    let fit = crew_count c.in_ok-queues.queues c.args.setup.now.nodes c.args.setup.now.workers c.args.actors c.in_ok-queues.stages.items h.nodes h.passes (c.len.result - c.args.actors) (omega (arith, c.len.ensures, c.in_ok-queues.stages.ok)) c.in_ok-senders.senders.items c.in_ok-senders.ensures.tail in
    omega (arith, fit, c.in_ok-senders.senders.ok)
