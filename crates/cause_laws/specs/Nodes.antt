-- What the history shows of the nodes: their terms, leases and ranges, and the refusals that their instances keep.
use Rattle.std.specs.Prelude.{◌≡◌, ℕ, ◌<◌, List, slice_get, Option, None, Some, ◌⊎◌}
use Rattle.stamp_base.specs.SetupNumbers.{SetupNumbers}
use Rattle.history_book.specs.declared.cause.Cause.{Cause}
use Rattle.history_book.specs.declared.cause.Cause.TheVariants.{Replaced, Spent}
use Rattle.history_book.specs.declared.item.Item.{Item}
use Rattle.system_parts.specs.Instance.{InstanceEntry}
use Rattle.cause_rules.specs.Posts.{TookLast, LeasedUntil, StandsSince, HasNone, TermTaken, CeilingGiven}
use Rattle.cause_rules.specs.Commits.{StampDrawn}
use Rattle.cause_rules.specs.Refusals.{ShownSpent}
use Rattle.isolation_laws.specs.Words.{InstanceAt}

-- an instance is that of its node's last take, with the lease of the take or of a renewal, and has not crashed
pub record AreTaken (nodes : List (Option InstanceEntry)) (h : List Item) : Type 0 where
  pub took : (n : ℕ) (i : InstanceEntry) → InstanceAt nodes n i → TookLast h n i.term i.epoch
  pub leased : (n : ℕ) (i : InstanceEntry) → InstanceAt nodes n i → LeasedUntil h n i.until
  pub stands : (n : ℕ) (i : InstanceEntry) → InstanceAt nodes n i → StandsSince h n

-- a node without an instance has taken no term since its last crash, or its last take failed
pub record AreVacant (nodes : List (Option InstanceEntry)) (h : List Item) : Type 0 where
  pub none : (n : ℕ) → slice_get nodes n ≡ Some None → HasNone h n

-- what shows a refusal that an instance of the term keeps
abbrev pub ShownStop : SetupNumbers → List Item → ℕ → Cause → Type 0
ShownStop setup h term (Replaced found) = (term < found) × TermTaken h found
ShownStop setup h term (Spent ceiling) = ShownSpent setup h ceiling
ShownStop setup h term _ = ⊥

pub record AreShownStops (setup : SetupNumbers) (nodes : List (Option InstanceEntry)) (h : List Item) : Type 0 where
  pub shown : (n : ℕ) (i : InstanceEntry) (why : Cause) → InstanceAt nodes n i → i.stop ≡ Some why → ShownStop setup h i.term why

-- an instance's range has stamps, its end was given, and its last stamp was drawn, if it drew any
pub record AreLasts (nodes : List (Option InstanceEntry)) (h : List Item) : Type 0 where
  pub wide : (n : ℕ) (i : InstanceEntry) → InstanceAt nodes n i → i.epoch < i.ceiling
  pub given : (n : ℕ) (i : InstanceEntry) → InstanceAt nodes n i → CeilingGiven h i.term i.ceiling
  pub drawn : (n : ℕ) (i : InstanceEntry) → InstanceAt nodes n i → (i.last ≡ i.epoch) ⊎ StampDrawn h i.term i.last
