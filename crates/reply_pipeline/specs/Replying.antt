-- What a reply stage did through its pass.
use Rattle.std.specs.Prelude.{◌≡◌, ℕ, ◌+◌, ◌^◌, ◌<◌, ◌≤◌, [], length, Option, None, Some, IsSomeAnd}
use Rattle.stamp_base.specs.declared.stage.Stage.TheVariants.{Reply}
use Rattle.persist_batches.specs.declared.numbered.Numbered.{Numbered}
use Rattle.persist_batches.specs.Waiting.{placed}
use Rattle.persist_batches.specs.Order.{Order, IsWelcome}
use Rattle.stage_queues.specs.Plan.{Plan}
use Rattle.stage_queues.specs.Passes.{StageAccount, at_node}
use Rattle.reply_pipeline.specs.declared.told.Told.{Told}
use Rattle.reply_pipeline.specs.Reach.{ReachesNode}

-- a reply stage's pass of a node: it reaches the settled queue alone, and put nothing there
pub record IsReplyPass (queues : Plan) (node : ℕ) (p : StageAccount) : Type 0 where
  pub reaches : ReachesNode queues node p
  pub no_tickets : (at_node p node).requests ≡ None
  pub no_batches : (at_node p node).batches ≡ None
  pub takes : IsSomeAnd (at_node p node).settled (λ q. q.account.put ≡ [])

-- so while it holds so many batches besides those that wait for their turn
pub record IsReplying (queues : Plan) (node hand : ℕ) (order : Order) (p : StageAccount) : Type 0 where
  pub pass : IsReplyPass queues node p
  pub holds : p.held ≡ length order.waiting + hand
  pub room : length order.waiting ≤ order.room
  pub small : order.room < 2 ^ 32

-- a batch waits for its turn where the order takes it, and otherwise the order stays as it was
pub record Offers (old new : Order) (batch : Numbered) : Type 0 where
  pub taken : IsWelcome old batch.number → new ≡ record old { waiting = placed old.waiting batch }
  pub refused : (IsWelcome old batch.number → ⊥) → new ≡ old

-- the batch whose turn it was is answered, entry by entry, and the next one's turn comes; or it has not come, and it is its turn still
abbrev pub AnswersNext : Order → Order → Option Told → Type 0
AnswersNext old new None = new.next ≡ old.next
AnswersNext old new (Some told) = (told.stage ≡ Reply) × (told.number ≡ old.next) × (new.next ≡ old.next + 1)
