-- The sweep of a transaction whose session has vanished: what it asks, and what an answer leaves.
use Rattle.std.specs.Prelude.{◌≡◌, ℕ, ◌+◌, ◌<◌, ◌≤◌, ◌⊎◌, nat_lt, Bool, true, false, List, Option, None, Some, IsSomeAnd, if◌then◌else◌, length, drop}
use Rattle.stamp_base.specs.declared.stores.Mark.{Mark}
use Rattle.stamp_base.specs.declared.stores.Mark.TheVariants.{Committed as CommittedMark, Invalid as InvalidMark}
use Rattle.system_parts.specs.declared.asks.Ask.{Ask}
use Rattle.system_parts.specs.declared.asks.Ask.TheVariants.{Get, Mark as MarkAsk, Keys}
use Rattle.system_parts.specs.declared.asks.Told.{Told}
use Rattle.system_parts.specs.declared.asks.Told.TheVariants.{Absent, Invalid, Committed, Marked}
use Rattle.system_parts.specs.Asks.{FitsNext}
use Rattle.system_parts.specs.Completion.{finish_asks, undo_asks, first_ask}

-- where a sweep stands
pub data SweepPoint : Type 0 where
  -- the table is asked
  Table : SweepPoint
  -- a mark is to be placed
  Marking : SweepPoint
  -- the keys of the transaction are asked, for a commit or a mark that is known
  Listing : Mark → SweepPoint
  -- these asks are left; where there are none, the sweep has ended
  Left : List Ask → SweepPoint
  -- the sweep has ended, since it may not mark the transaction
  Undecided : SweepPoint

-- the sweep of a transaction, at an oracle of this epoch
pub record Sweeping : Type 0 where
  pub txn : ℕ
  pub epoch : ℕ
  pub point : SweepPoint

abbrev pub sweep_open : ℕ → ℕ → Sweeping
sweep_open txn epoch = record { txn = txn; epoch = epoch; point = Table }

abbrev pub sweep_ask_at : ℕ → SweepPoint → Option Ask
sweep_ask_at txn Table = Some (Get txn)
sweep_ask_at txn Marking = Some (MarkAsk txn)
sweep_ask_at txn (Listing found) = Some (Keys txn)
sweep_ask_at txn (Left asks) = first_ask asks
sweep_ask_at txn Undecided = None

-- what is asked next; none exactly where the sweep has ended
abbrev pub sweep_ask : Sweeping → Option Ask
sweep_ask s = sweep_ask_at s.txn s.point

-- an absent entry is marked, unless the transaction may be of a newer epoch
abbrev pub sweep_after_table : ℕ → ℕ → Told → SweepPoint
sweep_after_table txn epoch (Committed c) = Listing (CommittedMark c)
sweep_after_table txn epoch Absent = if nat_lt epoch txn then Undecided else Marking
sweep_after_table txn epoch _ = Listing InvalidMark

-- a commit that was found counts as the table's, and a mark as one that was there
abbrev pub sweep_after_marking : Told → SweepPoint
sweep_after_marking (Committed c) = Listing (CommittedMark c)
sweep_after_marking _ = Listing InvalidMark

-- the keys are answered by a list, and an ended sweep has no answers
abbrev pub sweep_point_after : ℕ → ℕ → SweepPoint → Told → SweepPoint
sweep_point_after txn epoch Table told = sweep_after_table txn epoch told
sweep_point_after txn epoch Marking told = sweep_after_marking told
sweep_point_after txn epoch (Left asks) told = Left (drop 1 asks)
sweep_point_after txn epoch (Listing found) told = Listing found
sweep_point_after txn epoch Undecided told = Undecided

abbrev pub sweep_told : Sweeping → Told → Sweeping
sweep_told s told = record s { point = sweep_point_after s.txn s.epoch s.point told }

-- a commit is completed on these keys, and what is marked is undone
abbrev pub sweep_asks : ℕ → Mark → List ℕ → List Ask
sweep_asks txn (CommittedMark c) keys = finish_asks txn c keys
sweep_asks txn InvalidMark keys = undo_asks txn keys

abbrev pub sweep_point_listed : ℕ → SweepPoint → List ℕ → SweepPoint
sweep_point_listed txn (Listing found) keys = Left (sweep_asks txn found keys)
sweep_point_listed txn Table keys = Table
sweep_point_listed txn Marking keys = Marking
sweep_point_listed txn (Left asks) keys = Left asks
sweep_point_listed txn Undecided keys = Undecided

abbrev pub sweep_listed : Sweeping → List ℕ → Sweeping
sweep_listed s keys = record s { point = sweep_point_listed s.txn s.point keys }

abbrev pub is_undecided_at : SweepPoint → Bool
is_undecided_at Undecided = true
is_undecided_at _ = false

abbrev pub is_undecided : Sweeping → Bool
is_undecided s = is_undecided_at s.point

abbrev pub IsKeys : Ask → Type 0
IsKeys (Keys txn) = Unit {0}
IsKeys _ = ⊥

-- the keys are asked next
abbrev pub IsListing : Sweeping → Type 0
IsListing s = IsSomeAnd (sweep_ask s) IsKeys

-- how many steps there may be until the keys are asked, that one included
abbrev pub sweep_left : SweepPoint → ℕ
sweep_left Table = 3
sweep_left Marking = 2
sweep_left (Listing found) = 1
sweep_left (Left asks) = 0
sweep_left Undecided = 0

-- before the keys are known the steps to them are fewer, and then the asks that are left
abbrev pub IsNearer : SweepPoint → SweepPoint → Type 0
IsNearer (Left asks) (Left rest) = length rest + 1 ≡ length asks
IsNearer old new = sweep_left new < sweep_left old

-- each answer brings the sweep nearer to its end, and a list of keys leaves at most one ask for each key and one more
abbrev pub SweepsEnd : Type 0
SweepsEnd =
    (s : Sweeping) → ((told : Told) → FitsNext (sweep_ask s) told → IsNearer s.point (sweep_told s told).point) × ((found : Mark) (keys : List ℕ) → length (sweep_asks s.txn found keys) ≤ length keys + 1)

-- only a transaction of the epoch or below is marked
abbrev pub SweepMarksOldAlone : Type 0
SweepMarksOldAlone = (s : Sweeping) (told : Told) → (sweep_told s told).point ≡ Marking → s.txn ≤ s.epoch

-- a sweep erases cells only after the table had a mark, or a mark was placed or found
abbrev pub SweepErasesMarked : Type 0
SweepErasesMarked =
    (s : Sweeping) (told : Told) → (s.point ≡ Listing InvalidMark → ⊥) → (sweep_told s told).point ≡ Listing InvalidMark → FitsNext (sweep_ask s) told → (told ≡ Invalid) ⊎ (told ≡ Marked)

-- a sweep stays undecided only where the table is empty and the transaction is above the epoch
abbrev pub UndecidedOnlyAbove : Type 0
UndecidedOnlyAbove =
    (s : Sweeping) (told : Told) → (s.point ≡ Undecided → ⊥) → (sweep_told s told).point ≡ Undecided → (told ≡ Absent) × (s.epoch < s.txn)
