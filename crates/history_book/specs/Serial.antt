-- Serial histories: what a committed transaction read of the others still stood when it committed.
-- docs/DEFINITIONS.md tells each definition in words.
use Rattle.std.specs.Prelude.{◌≡◌, ◌≢◌, ℕ, ◌<◌, List, None}
use Rattle.history_book.specs.Members.{AtEach}
use Rattle.history_book.specs.Isolation.{Committed, Wrote, last_write}
use Rattle.history_book.specs.declared.item.Item.{Item}
use Rattle.history_book.specs.declared.item.Item.TheVariants.{Read}

-- no other transaction than s that wrote k committed above the start s and below the commit d
abbrev pub StoodUntil : List Item → ℕ → ℕ → ℕ → Type 0
StoodUntil h k s d = (t c : ℕ) (value : List ℕ) → Committed h t c → t ≢ s → Wrote h t k value → s < c → c < d → ⊥

-- what a committed transaction read of a key that it had not written stood until its commit
abbrev pub StoodAtCommit : List Item → List Item → Item → Type 0
StoodAtCommit h before (Read session s k answer) = last_write before s k ≡ None → (d : ℕ) → Committed h s d → StoodUntil h k s d
StoodAtCommit h before _ = Unit {0}

-- the history is serial: in the order of their commits, where it is isolated too
abbrev pub Serial : List Item → Type 0
Serial h = AtEach (StoodAtCommit h) h
