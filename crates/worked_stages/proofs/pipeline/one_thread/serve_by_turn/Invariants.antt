use Rattle.std.proofs.Common.{◌≡◌, ℕ, ◌/◌, ◌%◌, ◌≤◌}
use Rattle.std.specs.Prelude.{Some, slice_get}
use Rattle.stage_queues.specs.Passes.{StageAccount}
use Rattle.reply_pipeline.specs.Seats.{IsReadyFor, stage_at}
use Rattle.worked_stages.proofs.pipeline.one_thread.serve_by_turn.Given as goal

-- the passes from this place on are ready
abbrev pub invariant-loop-place : goal.invariant-loop-place
invariant-loop-place g l = (place : ℕ) (p : StageAccount) → l.place ≤ place → slice_get l.stages place ≡ Some p → IsReadyFor l.queues (place / 4) (stage_at 2 (place % 4)) p
