-- What stores at rest show, and that a compaction hides nothing of it from a reader at the water or above it.
use Rattle.std.specs.Prelude.{◌≡◌, ℕ, ◌≤◌, List, Option}
use Rattle.history_book.specs.Isolation.{Stamped, Visible}
use Rattle.history_book.specs.declared.item.Found.{Found}
use Rattle.history_book.specs.declared.item.Item.{Item}
use Rattle.system_parts.specs.Rows.{Row, AreOrdered}
use Rattle.system_parts.specs.Pairs.{Pairs}
use Rattle.cell_compaction.specs.Rest.{StandsAtRest, snapshot, read_from, compacted}

-- every reader finds in the stores what it sees in the history
abbrev pub SnapshotsAreVisible : Type 0
SnapshotsAreVisible = (h : List Item) (rows : List Row) (pairs : Pairs) (s k : ℕ) → StandsAtRest h rows pairs → Visible h s k (snapshot rows pairs s k)

-- and it sees nothing else there, where starts and commits are all different: what it finds is what is visible
abbrev pub NothingElseIsVisible : Type 0
NothingElseIsVisible = (h : List Item) (rows : List Row) (pairs : Pairs) (s k : ℕ) (answer : Option Found) → StandsAtRest h rows pairs → Stamped h → Visible h s k answer → answer ≡ snapshot rows pairs s k

-- a reader at the water or above it finds the same in the rows that stay
abbrev pub CompactionKeepsSnapshots : Type 0
CompactionKeepsSnapshots = (rows : List Row) (pairs : Pairs) (water s k : ℕ) → AreOrdered rows → water ≤ s → read_from (compacted rows pairs water) s k ≡ snapshot rows pairs s k

-- both: such a reader finds in the rows that stay what it sees in the history
abbrev pub ArchivesAreVisible : Type 0
ArchivesAreVisible = (h : List Item) (rows : List Row) (pairs : Pairs) (water s k : ℕ) → StandsAtRest h rows pairs → water ≤ s → Visible h s k (read_from (compacted rows pairs water) s k)
