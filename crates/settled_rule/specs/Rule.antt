-- The rule of a settled ring: any number of senders and receivers.
use Rattle.std.specs.Prelude.{◌≡◌, ℕ, ◌+◌, ◌≤◌, List, [], length, sum_by}
use mathlib.Core.Option.{some}
use lib.ListN.{get_elem?}
use Rattle.persist_batches.specs.declared.numbered.Numbered.{Numbered}
use Rattle.queue_passes.specs.Holds.{whole}
use Rattle.settled_rule.specs.declared.account.SettledAccount.{SettledAccount}

-- However batches are weighed, what was put through all passes weighs as much as what was taken and what the ring holds.
-- A pass with no part put and took nothing.
pub record IsBalanced (items : List Numbered) (accounts : List SettledAccount) : Type 0 where
  pub parts : sum_by (λ a. a.parts) accounts ≡ whole
  pub weights : (weight : Numbered → ℕ) → sum_by (λ a. sum_by weight a.put) accounts ≡ sum_by (λ a. sum_by weight a.taken) accounts + sum_by weight items
  pub idle : (pass : ℕ) (a : SettledAccount) → get_elem? accounts pass ≡ some a → a.parts ≡ 0 → (a.put ≡ []) × (a.taken ≡ [])

-- With every part: no batch was taken more often than it was put, and nothing that was not put
abbrev pub IsFair : SettledAccount → Type 0
IsFair a = a.parts ≡ whole → (weight : Numbered → ℕ) → sum_by weight a.taken ≤ sum_by weight a.put

-- With every part: so many of the batches that were put were not taken
abbrev pub HasLeft : ℕ → SettledAccount → Type 0
HasLeft count a = a.parts ≡ whole → length a.put ≡ length a.taken + count
