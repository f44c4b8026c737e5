-- The rule of a batch ring: one sender, and any number of workers.
use Rattle.std.specs.Prelude.{◌≡◌, ℕ, ◌+◌, ◌≤◌, ◌==◌, true, List, [], ◌++◌, length, take, sum_by, if◌then◌else◌}
use mathlib.Core.Option.{some}
use lib.ListN.{get_elem?}
use Rattle.persist_batches.specs.declared.numbered.Numbered.{Numbered}
use Rattle.queue_passes.specs.Holds.{whole}
use Rattle.batch_rule.specs.declared.account.BatchAccount.{BatchAccount}
use Rattle.batch_rule.specs.Accounts.{all_taken}
use Rattle.batch_rule.specs.Numbers.{rises_from, next_after, AllRise}

-- one pass is the sender's, and has all that was sent
abbrev pub FitsSender : ℕ → List Numbered → ℕ → BatchAccount → Type 0
FitsSender sender sent pass a = a.sends ≡ true → (pass ≡ sender) × (a.put ≡ sent)

-- what a pass took rises, and ends no higher than what was taken in all
pub record FitsWorker (gone : List Numbered) (a : BatchAccount) : Type 0 where
  pub own : rises_from 0 a.taken ≡ true
  pub ends : next_after 0 a.taken ≤ next_after 0 gone
  pub others : AllRise a.others
  pub idle : a.parts ≡ 0 → all_taken a ≡ []

-- What was sent rises. It is what is gone from the ring and then what the ring holds. What is gone was taken, through some pass
-- each: the passes took as much as is gone, however batches are weighed.
pub record AreInOrder (items : List Numbered) (accounts : List BatchAccount) : Type 0 where
  pub sender : ℕ
  pub gone : List Numbered
  pub rise : rises_from 0 (gone ++ items) ≡ true
  pub parts : sum_by (λ a. a.parts) accounts ≡ whole
  pub weights : (weight : Numbered → ℕ) → sum_by (λ a. sum_by weight (all_taken a)) accounts ≡ sum_by weight gone
  pub each : (pass : ℕ) (a : BatchAccount) → get_elem? accounts pass ≡ some a → FitsSender sender (gone ++ items) pass a × FitsWorker gone a

-- how often a number was taken
abbrev pub times_taken : ℕ → BatchAccount → ℕ
times_taken number a = sum_by (λ batch. if batch.number == number then 1 else 0) (all_taken a)

-- The batches taken are the first that were sent, as many as were taken: each as often as it was sent, and with the same entries
abbrev pub TookTheFirst : BatchAccount → Type 0
TookTheFirst a = (weight : Numbered → ℕ) → sum_by weight (all_taken a) ≡ sum_by weight (take (length (all_taken a)) a.put)

-- what an account tells
pub record Tells (a : BatchAccount) : Type 0 where
  -- the numbers that were sent rise, and so do those taken through each pass
  pub sent_rise : a.sends ≡ true → rises_from 0 a.put ≡ true
  pub own_rise : rises_from 0 a.taken ≡ true
  pub others_rise : AllRise a.others
  -- no number was taken twice, at whichever of these passes
  pub once : (number : ℕ) → times_taken number a ≤ 1
  -- with the sender's account and every part
  pub first : a.sends ≡ true → a.parts ≡ whole → TookTheFirst a

-- With the sender's account: at least so many of the batches that were sent were not taken, and with every part just so many
abbrev pub HasLeft : ℕ → BatchAccount → Type 0
HasLeft count a = a.sends ≡ true → (length (all_taken a) + count ≤ length a.put) × (a.parts ≡ whole → length a.put ≡ length (all_taken a) + count)
