-- What a persist worker did through its pass.
use Rattle.std.specs.Prelude.{◌≡◌, ℕ, ◌+◌, ◌≤◌, List, [], length, Option, None, Some, sum_by}
use Rattle.persist_batches.specs.declared.numbered.Numbered.{Numbered}
use Rattle.queue_passes.specs.Holds.{Holds}
use Rattle.batch_rule.specs.declared.account.BatchAccount.{BatchAccount}
use Rattle.batch_rule.specs.Accounts.{all_taken}
use Rattle.settled_rule.specs.declared.account.SettledAccount.{SettledAccount}
use Rattle.stage_queues.specs.Laws.{PutsWhatItTook}
use Rattle.stage_queues.specs.Plan.{Plan}
use Rattle.stage_queues.specs.Passes.{StageAccount, at_node}
use Rattle.reply_pipeline.specs.Reach.{ReachesNode}

-- what is said of the account of the batch queue and that of the settled queue, both of which are there
abbrev pub SaidOf : (BatchAccount → SettledAccount → Type 0) → Option (Holds BatchAccount) → Option (Holds SettledAccount) → Type 0
SaidOf said (Some batches) (Some settled) = said batches.account settled.account
SaidOf said None settled = ⊥
SaidOf said (Some batches) None = ⊥

-- a persist worker's pass of a node, which put as settled only what it took, each batch at most as often
pub record IsPersistPass (queues : Plan) (node : ℕ) (p : StageAccount) : Type 0 where
  pub reaches : ReachesNode queues node p
  pub puts : SaidOf PutsWhatItTook (at_node p node).batches (at_node p node).settled

-- however batches are weighed, what was put as settled and what is in hand weigh no more than what was taken
abbrev pub PutsWithout : List Numbered → BatchAccount → SettledAccount → Type 0
PutsWithout hand batches settled = (weight : Numbered → ℕ) → sum_by weight settled.put + sum_by weight hand ≤ sum_by weight (all_taken batches)

-- so while it has these batches in hand
pub record IsPersisting (queues : Plan) (node : ℕ) (hand : List Numbered) (p : StageAccount) : Type 0 where
  pub reaches : ReachesNode queues node p
  pub holds : p.held ≡ length hand
  pub puts : SaidOf (PutsWithout hand) (at_node p node).batches (at_node p node).settled

-- ---- from one moment to another
abbrev pub settled_by : Option (Holds SettledAccount) → List Numbered
settled_by None = []
settled_by (Some p) = p.account.put

abbrev pub taken_by : Option (Holds BatchAccount) → List Numbered
taken_by None = []
taken_by (Some p) = all_taken p.account

-- what a pass put as settled at a node, and what it took there
abbrev pub settled_at : StageAccount → ℕ → List Numbered
settled_at p node = settled_by (at_node p node).settled

abbrev pub taken_at : StageAccount → ℕ → List Numbered
taken_at p node = taken_by (at_node p node).batches

-- What was in hand before and what was taken since is what was put since and what is in hand after: however batches are weighed
abbrev pub Carries : ℕ → List Numbered → List Numbered → StageAccount → StageAccount → Type 0
Carries node before after old new =
    (weight : Numbered → ℕ) → sum_by weight (settled_at new node) + sum_by weight after + sum_by weight (taken_at old node) ≡ sum_by weight (taken_at new node) + sum_by weight before + sum_by weight (settled_at old node)

-- each batch that was taken was put, but for one at most, which was given back
pub record PutsAllButOne (node : ℕ) (old new : StageAccount) : Type 0 where
  pub given : List Numbered
  pub one : length given ≤ 1
  pub puts : Carries node [] given old new
