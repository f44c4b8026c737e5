-- Stores at rest: what they have to do with their history, what a reader finds in them, and which rows a compaction keeps.
-- docs/COMPACTION.md tells it in words.
use Rattle.std.specs.Prelude.{◌≡◌, ℕ, ◌==◌, nat_lt, nat_le, Bool, false, ◌&&◌, ◌||◌, ◌⊎◌, if◌then◌else◌, List, [], ◌∷◌, map, Option, None, Some}
use Rattle.std.specs.Option.{option_or}
use Rattle.stamp_base.specs.declared.stores.Mark.{Mark}
use Rattle.stamp_base.specs.declared.stores.Mark.TheVariants as mark
use Rattle.history_book.specs.Isolation.{Committed, Wrote}
use Rattle.history_book.specs.declared.item.Found.{Found}
use Rattle.history_book.specs.declared.item.Item.{Item}
use Rattle.system_parts.specs.declared.rows.Cell.{Cell}
use Rattle.system_parts.specs.Rows.{Row, looked, AreOrdered}
use Rattle.system_parts.specs.Pairs.{Pairs, mark_of}
use Rattle.cell_compaction.specs.declared.latest.Latest.{Latest}

-- ---- the stores and their history
-- the cell has this value, and a shadow that tells its commit, or none, and then the table tells it
abbrev pub IsWritten : Pairs → Option Cell → ℕ → ℕ → List ℕ → Type 0
IsWritten pairs found t c value =
    (found ≡ Some (record { version = t; value = value; shadow = Some c })) ⊎ ((found ≡ Some (record { version = t; value = value; shadow = None })) × (mark_of pairs t ≡ Some (mark.Committed c)))

-- rows ascend by key and version; what is committed has its rows with its last writes and no others; and no shadow and no
-- pair tells of a commit that is not there
pub record StandsAtRest (h : List Item) (rows : List Row) (pairs : Pairs) : Type 0 where
  pub ordered : AreOrdered rows
  pub written : (t c k : ℕ) (value : List ℕ) → Committed h t c → Wrote h t k value → IsWritten pairs (looked rows k t) t c value
  pub shadowed : (k t c : ℕ) (cell : Cell) → looked rows k t ≡ Some cell → cell.shadow ≡ Some c → Committed h t c
  pub paired : (t c : ℕ) → mark_of pairs t ≡ Some (mark.Committed c) → Committed h t c
  pub no_others : (t c k : ℕ) (cell : Cell) → Committed h t c → looked rows k t ≡ Some cell → (value : List ℕ) × Wrote h t k value

-- ---- the commit of a row, which its shadow tells, or the table where it has none
abbrev pub commit_in : Option Mark → Option ℕ
commit_in (Some (mark.Committed c)) = Some c
commit_in (Some mark.Invalid) = None
commit_in None = None

abbrev pub commit_of : Pairs → Row → Option ℕ
commit_of pairs r = option_or r.shadow (commit_in (mark_of pairs r.version))

-- the row with its commit as shadow
abbrev pub with_commit : Pairs → Row → Row
with_commit pairs r = record r { shadow = commit_of pairs r }

abbrev pub with_commits : Pairs → List Row → List Row
with_commits pairs rows = map (with_commit pairs) rows

-- ---- what a reader finds in rows that have their commits
abbrev pub commit_below : ℕ → Option ℕ → Option ℕ
commit_below s None = None
commit_below s (Some c) = if nat_lt c s then Some c else None

-- by commit, and of equal commits by version
abbrev pub is_later : ℕ → ℕ → Latest → Bool
is_later c t latest = nat_lt latest.commit c || (latest.commit == c) && nat_lt latest.version t

abbrev pub row_with : Row → ℕ → Latest
row_with r c = record { commit = c; version = r.version; value = r.value }

abbrev pub later_of : Row → ℕ → Option Latest → Option Latest
later_of r c None = Some (row_with r c)
later_of r c (Some latest) = if is_later c r.version latest then Some (row_with r c) else Some latest

abbrev pub with_row : ℕ → Row → Option ℕ → Option Latest → Option Latest
with_row k r None latest = latest
with_row k r (Some c) latest = if r.key == k then later_of r c latest else latest

-- the newest of the rows of k that were committed before s
unfoldable pub latest_in : List Row → ℕ → ℕ → Option Latest
latest_in [] s k = None
latest_in (r ∷ rs) s k = with_row k r (commit_below s r.shadow) (latest_in rs s k)

abbrev pub found_of : Option Latest → Option Found
found_of None = None
found_of (Some latest) = Some (record { from = latest.version; value = latest.value })

-- what rows that have their commits give a reader with the start s at k
abbrev pub read_from : List Row → ℕ → ℕ → Option Found
read_from rows s k = found_of (latest_in rows s k)

-- what the rows and the pairs give a reader with the start s at k
abbrev pub snapshot : List Row → Pairs → ℕ → ℕ → Option Found
snapshot rows pairs s k = read_from (with_commits pairs rows) s k

-- ---- compaction
abbrev pub is_latest : ℕ → ℕ → Option Latest → Bool
is_latest c t None = false
is_latest c t (Some latest) = (latest.commit == c) && (latest.version == t)

-- a row without a commit stays by its version; one with a commit at the water or above it stays, and of those below it the
-- latest of the key
abbrev pub stays_by : ℕ → Row → Option ℕ → Option Latest → Bool
stays_by water r None latest = nat_le water r.version
stays_by water r (Some c) latest = nat_le water c || is_latest c r.version latest

abbrev pub stays : List Row → ℕ → Row → Bool
stays all water r = stays_by water r r.shadow (latest_in all water r.key)

-- of these rows, those that stay
unfoldable pub kept_of : List Row → ℕ → List Row → List Row
kept_of all water [] = []
kept_of all water (r ∷ rs) = if stays all water r then r ∷ kept_of all water rs else kept_of all water rs

-- the rows that stay, with their commits
abbrev pub compacted : List Row → Pairs → ℕ → List Row
compacted rows pairs water = kept_of (with_commits pairs rows) water (with_commits pairs rows)
