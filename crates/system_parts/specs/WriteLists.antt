-- The write list of a transaction: the keys that it wrote, each once, in the order of their first writes.
use Rattle.std.specs.Prelude.{◌≡◌, ℕ, ◌≤◌, ◌⊎◌, ◌↔◌, nat_eq, List, [], ◌∷◌, ◌++◌, None, IsTrue, length}
use Rattle.std.specs.List.{IsDistinct}
use Rattle.stamp_base.specs.declared.limits.TheConstants.{KEY_LIMIT}
use Rattle.history_book.specs.Members.{◌∈◌}
use Rattle.system_parts.specs.SessionSteps.{has_key, key_added, key_refusal}

-- what a write of the key leaves of the list
pub record TakesIn (keys : List ℕ) (key : ℕ) : Type 0 where
  pub again : key ∈ keys → key_added keys key ≡ keys
  pub first : (key ∈ keys → ⊥) → key_added keys key ≡ keys ++ key ∷ []
  pub once : IsDistinct nat_eq keys → IsDistinct nat_eq (key_added keys key)
  pub has : (other : ℕ) → (other ∈ key_added keys key) ↔ ((other ∈ keys) ⊎ (other ≡ key))
  pub few : length keys ≤ KEY_LIMIT → key_refusal keys key ≡ None → length (key_added keys key) ≤ KEY_LIMIT

-- a list has the keys that the test finds in it, and each write takes its key in
abbrev pub WriteListsAreFirstWrites : Type 0
WriteListsAreFirstWrites = (keys : List ℕ) (key : ℕ) → (IsTrue (has_key keys key) ↔ (key ∈ keys)) × TakesIn keys key
