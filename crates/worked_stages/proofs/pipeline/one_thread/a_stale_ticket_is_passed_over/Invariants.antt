use Rattle.std.proofs.Common.{◌≡◌}
use Rattle.reply_pipeline.specs.Seats.{IsSenderPass}
use Rattle.worked_stages.proofs.pipeline.one_thread.a_stale_ticket_is_passed_over.Given as goal

abbrev pub invariant-loop : goal.invariant-loop
invariant-loop g l = IsSenderPass l.queues l.session × (l.session.held ≡ 0)
