-- Stamps, terms and leases: what the instances and the master record have to do with what was drawn.
use Rattle.std.specs.Prelude.{◌≡◌, ◌≢◌, ℕ, ◌+◌, ◌<◌, ◌≤◌, List, Option, Some, IsSome}
use Rattle.history_book.specs.Members.{◌∈◌, AtEach}
use Rattle.history_book.specs.Isolation.{Committed}
use Rattle.history_book.specs.declared.item.Found.{Found}
use Rattle.history_book.specs.declared.item.Item.{Item}
use Rattle.history_book.specs.declared.item.Item.TheVariants.{Draw, Write, Read}
use Rattle.stamp_base.specs.SetupNumbers.{SetupNumbers}
use Rattle.system_parts.specs.Record.{MasterRecord}
use Rattle.system_parts.specs.Instance.{InstanceEntry}
use Rattle.isolation_laws.specs.Words.{InstanceAt, Begun, DrewStart, DrewCommit, HasDrawn, drawn_stamp}

-- each instance draws within its range, which the record covers; of two nodes' instances the later one draws above all of
-- the earlier one's range
pub record AreRanges (nodes : List (Option InstanceEntry)) (master : MasterRecord) : Type 0 where
  pub above : (n : ℕ) (i : InstanceEntry) → InstanceAt nodes n i → i.epoch ≤ i.last
  pub within : (n : ℕ) (i : InstanceEntry) → InstanceAt nodes n i → i.last ≤ i.ceiling
  pub covered : (n : ℕ) (i : InstanceEntry) → InstanceAt nodes n i → i.ceiling ≤ master.ceiling
  pub counted : (n : ℕ) (i : InstanceEntry) → InstanceAt nodes n i → (1 ≤ i.term) × (i.term ≤ master.term)
  pub differ : (n m : ℕ) (i j : InstanceEntry) → n ≢ m → InstanceAt nodes n i → InstanceAt nodes m j → i.term ≢ j.term
  pub apart : (n m : ℕ) (i j : InstanceEntry) → InstanceAt nodes n i → InstanceAt nodes m j → i.term < j.term → i.ceiling ≤ j.epoch

-- an instance of the record's term has a lease that the record covers, and the lease of a replaced one has ended by every
-- clock
pub record AreLeases (setup : SetupNumbers) (seen : ℕ) (nodes : List (Option InstanceEntry)) (master : MasterRecord) : Type 0 where
  pub holder : (n : ℕ) (i : InstanceEntry) → InstanceAt nodes n i → IsSome master.holder
  pub present : (n : ℕ) (i : InstanceEntry) → InstanceAt nodes n i → i.term ≡ master.term → i.until ≤ master.until
  pub replaced : (n : ℕ) (i : InstanceEntry) → InstanceAt nodes n i → i.term < master.term → i.until + setup.skew ≤ seen

-- what was drawn in a term lies where the instances of that term, of later ones and of earlier ones say
pub record AreDrawn (nodes : List (Option InstanceEntry)) (master : MasterRecord) (h : List Item) : Type 0 where
  pub counted : (s n term t : ℕ) (commit : Option ℕ) → Draw s n term t commit ∈ h → (1 ≤ term) × (term ≤ master.term) × (drawn_stamp t commit ≤ master.ceiling)
  pub earlier : (s m term t n : ℕ) (commit : Option ℕ) (i : InstanceEntry) → Draw s m term t commit ∈ h → InstanceAt nodes n i → term < i.term → drawn_stamp t commit ≤ i.epoch
  pub same : (s m term t n : ℕ) (commit : Option ℕ) (i : InstanceEntry) → Draw s m term t commit ∈ h → InstanceAt nodes n i → term ≡ i.term → (i.epoch < drawn_stamp t commit) × (drawn_stamp t commit ≤ i.last)
  pub later : (s m term t n : ℕ) (commit : Option ℕ) (i : InstanceEntry) → Draw s m term t commit ∈ h → InstanceAt nodes n i → i.term < term → (i.ceiling < drawn_stamp t commit) × (i.ceiling < t)

-- a stamp is drawn once, above all of its term before it; a transaction's commit is drawn once, above its start
abbrev pub IsNewDraw : List Item → Item → Type 0
IsNewDraw before (Draw s n term t commit) =
    ((r m other u : ℕ) (d : Option ℕ) → Draw r m other u d ∈ before → drawn_stamp u d ≢ drawn_stamp t commit)
    × ((r m u : ℕ) (d : Option ℕ) → Draw r m term u d ∈ before → drawn_stamp u d < drawn_stamp t commit)
    × ((c : ℕ) → commit ≡ Some c → (t < c) × (HasDrawn before t → ⊥))
IsNewDraw before _ = Unit {0}

pub record AreNewDraws (h : List Item) : Type 0 where
  pub each : AtEach IsNewDraw h

-- what was begun was drawn, and what writes, reads or has drawn a commit was begun
pub record AreBegun (h : List Item) : Type 0 where
  pub drawn : (s t : ℕ) → Begun h s t → (n : ℕ) × (term : ℕ) × DrewStart h s n term t
  pub writes : (s t k : ℕ) (value : List ℕ) → Write s t k value ∈ h → (r : ℕ) × Begun h r t
  pub reads : (s t k : ℕ) (answer : Option Found) → Read s t k answer ∈ h → (r : ℕ) × Begun h r t
  pub commits : (s n term t c : ℕ) → DrewCommit h s n term t c → (r : ℕ) × Begun h r t

-- what is placed was drawn
pub record ArePlaced (h : List Item) : Type 0 where
  pub drawn : (t c : ℕ) → Committed h t c → (s : ℕ) × (n : ℕ) × (term : ℕ) × DrewCommit h s n term t c

-- all of them
pub record NumberFacts (setup : SetupNumbers) (seen : ℕ) (nodes : List (Option InstanceEntry)) (master : MasterRecord) (h : List Item) : Type 0 where
  pub ranges : AreRanges nodes master
  pub leases : AreLeases setup seen nodes master
  pub drawn : AreDrawn nodes master h
  pub new : AreNewDraws h
  pub begun : AreBegun h
  pub placed : ArePlaced h
