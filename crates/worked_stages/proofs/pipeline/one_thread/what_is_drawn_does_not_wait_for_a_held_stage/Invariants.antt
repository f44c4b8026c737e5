use Rattle.std.proofs.Common.{◌≡◌}
use Rattle.reply_pipeline.specs.Seats.{IsSenderPass}
use Rattle.worked_stages.proofs.pipeline.one_thread.what_is_drawn_does_not_wait_for_a_held_stage.Given as goal

abbrev pub invariant-loop-waits : goal.invariant-loop-waits
invariant-loop-waits g l = IsSenderPass l.queues l.session × (l.session.held ≡ 0)
