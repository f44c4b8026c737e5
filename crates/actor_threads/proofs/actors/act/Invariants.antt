use Rattle.reply_pipeline.specs.Seats.{IsSenderPass}
use Rattle.actor_threads.specs.Lines.{AreLeft}
use Rattle.actor_threads.specs.Sending.{ComesBack}
use Rattle.actor_threads.specs.Sights.{IsSightOf}
use Rattle.actor_threads.proofs.actors.act.Given as goal

abbrev pub invariant-loop : goal.invariant-loop
invariant-loop g l =
    ComesBack l.fn.mine l.mine × IsSenderPass l.shared.queues.now l.pass × AreLeft l.shared.lines.now l.mine l.left × IsSightOf l.shared.beacon.now l.sight
