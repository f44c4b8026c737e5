-- Batches on their way through both queues of a node.
use Rattle.std.specs.Prelude.{ℕ, ◌≤◌, ◌==◌, if◌then◌else◌, sum_by}
use Rattle.persist_batches.specs.declared.numbered.Numbered.{Numbered}
use Rattle.batch_rule.specs.declared.account.BatchAccount.{BatchAccount}
use Rattle.batch_rule.specs.Accounts.{all_taken}
use Rattle.settled_rule.specs.declared.account.SettledAccount.{SettledAccount}

-- however batches are weighed, what was put as settled weighs no more than what was taken from the batch queue
abbrev pub PutsWhatItTook : BatchAccount → SettledAccount → Type 0
PutsWhatItTook batches settled = (weight : Numbered → ℕ) → sum_by weight settled.put ≤ sum_by weight (all_taken batches)

-- how often a number was taken from the settled queue
abbrev pub times_settled : ℕ → SettledAccount → ℕ
times_settled number settled = sum_by (λ batch. if batch.number == number then 1 else 0) settled.taken
