-- The keys of a transaction, and the transactions that wrote one of them.
use Rattle.std.specs.Prelude.{◌≡◌, ◌<◌, ℕ, Bool, false, List, length, slice_index_or, nat_eq}
use Rattle.std.specs.HashSet.{contains}
use Rattle.std.specs.List.{list_any}
use Rattle.history_book.specs.declared.item.Item.{Item}
use Rattle.isolation_rules.specs.ApartPairs.{writes, writes_shared}
use Rattle.si_judge.specs.StampSets.{StampSet}

-- of each key it is told whether the transaction t wrote it in a part of the history
pub record HasKeys (part : List Item) (t : ℕ) (keys : List Bool) : Type 0 where
  pub each : length keys ≡ 4096
  pub told : (k : ℕ) → k < 4096 → slice_index_or keys k false ≡ list_any (λ x. writes t k x) part

-- the set has the transactions that in the part wrote a key which t wrote in the history
abbrev pub HasSharers : List Item → ℕ → List Item → StampSet → Type 0
HasSharers h t part starts = (u : ℕ) → contains nat_eq starts u ≡ list_any (λ x. writes_shared h u t x) part
