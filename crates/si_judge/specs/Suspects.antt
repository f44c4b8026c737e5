-- Places where a rule may be broken.
use Rattle.std.specs.Prelude.{◌≡◌, ℕ, Bool, true, false, List, length, slice_index_or}
use Rattle.history_book.specs.declared.item.Item.{Item}
use Rattle.isolation_rules.specs.declared.verdict.Rule.{Rule}
use Rattle.isolation_rules.specs.Judged.{Passes}

-- there is a mark for each place, and a place that is not marked passes the rule
pub record AreSuspects (rule : Rule) (h : List Item) (marks : List Bool) : Type 0 where
  pub each : length marks ≡ length h
  pub unmarked : (i : ℕ) → slice_index_or marks i true ≡ false → Passes rule h i
