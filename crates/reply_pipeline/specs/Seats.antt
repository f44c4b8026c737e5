-- Which pass is a stage's, and with which it may begin.
use Rattle.std.specs.Prelude.{◌≡◌, ℕ, ◌+◌, ◌/◌, ◌%◌, ◌==◌, if◌then◌else◌, List, Some, Result, MatchResult, length, slice_get}
use Rattle.request_rule.specs.declared.account.Ticket.{Ticket}
use Rattle.stamp_base.specs.declared.stage.Stage.{Stage}
use Rattle.stamp_base.specs.declared.stage.Stage.TheVariants.{Request, Persist, Reply}
use Rattle.stage_queues.specs.Plan.{Plan, NodeRings}
use Rattle.stage_queues.specs.NodePasses.{MaySendTicket, ticket_put}
use Rattle.stage_queues.specs.Passes.{StageAccount, at_node, with_node}
use Rattle.reply_pipeline.specs.Requesting.{IsRequestPass, IsUnused}
use Rattle.reply_pipeline.specs.Persisting.{IsPersistPass}
use Rattle.reply_pipeline.specs.Replying.{IsReplyPass}

-- a pass with which this stage of the node may begin
abbrev pub IsReadyFor : Plan → ℕ → Stage → StageAccount → Type 0
IsReadyFor plan node Request p = IsRequestPass plan node p × IsUnused node p × (p.held ≡ 0)
IsReadyFor plan node Persist p = IsPersistPass plan node p × (p.held ≡ 0)
IsReadyFor plan node Reply p = IsReplyPass plan node p × (p.held ≡ 0)

-- of a node's passes the first is the request stage's, then come the workers', and the last is the reply stage's
abbrev pub stage_at : ℕ → ℕ → Stage
stage_at workers place = if place == 0 then Request else if place == workers + 1 then Reply else Persist

-- the passes of the stages stand node by node
abbrev pub AreReady : Plan → ℕ → List StageAccount → Type 0
AreReady plan workers passes = (place : ℕ) (p : StageAccount) → slice_get passes place ≡ Some p → IsReadyFor plan (place / (workers + 2)) (stage_at workers (place % (workers + 2))) p

-- a pass through which tickets are sent, to whichever node
pub record IsSenderPass (plan : Plan) (p : StageAccount) : Type 0 where
  pub fit : length p.nodes ≡ length plan.nodes
  pub sends : (node : ℕ) (rings : NodeRings) → slice_get plan.nodes node ≡ Some rings → MaySendTicket rings.requests (at_node p node)

-- the ticket is the last that was put for the node, and nothing else changed; or it comes back, and nothing changed
abbrev pub SendsOrGivesBack : {Told : Type 0} → ℕ → Ticket → StageAccount → StageAccount → Result Told Ticket → Type 0
SendsOrGivesBack node ticket old new result = MatchResult result (λ _. new ≡ with_node old node (ticket_put ticket (at_node old node))) (λ back. (back ≡ ticket) × (new ≡ old))
