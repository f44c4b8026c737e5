-- One copy: what a transaction reads is what a single copy of the data has at its place, where commits are carried out one after the
-- other. docs/DEFINITIONS.md tells each definition in words.
use Rattle.std.specs.Prelude.{◌≡◌, ℕ, List, None, ◌⊎◌}
use Rattle.history_book.specs.Members.{AtEach}
use Rattle.history_book.specs.Isolation.{Committed, Visible, last_write}
use Rattle.history_book.specs.declared.item.Item.{Item}
use Rattle.history_book.specs.declared.item.Item.TheVariants.{Read}

-- a transaction stands at its commit; one that has none stands at its start
abbrev pub StandsAt : List Item → ℕ → ℕ → Type 0
StandsAt h s place = Committed h s place ⊎ (((c : ℕ) → Committed h s c → ⊥) × (place ≡ s))

-- a read of a key that its transaction had not written gives what was committed last below the transaction's place
abbrev pub ReadsOneCopy : List Item → List Item → Item → Type 0
ReadsOneCopy h before (Read session s k answer) = last_write before s k ≡ None → (place : ℕ) → StandsAt h s place → Visible h place k answer
ReadsOneCopy h before _ = Unit {0}

abbrev pub OneCopy : List Item → Type 0
OneCopy h = AtEach (ReadsOneCopy h) h
