-- How an index leads from a version to the keys of its rows.
use Rattle.std.specs.Prelude.{◌≡◌, ℕ, ◌<◌, true, is_some}
use Rattle.std.specs.Ordering.{nat_cmp, ordering_then}
use Rattle.std.specs.declared.cmp.Ordering.{Ordering}
use Rattle.std.specs.declared.cmp.Reverse.{Reverse}
use Rattle.std.specs.BTreeSet as sorted
use Rattle.system_parts.specs.Rows.{looked}
use Rattle.cell_store.specs.declared.Cells.TheInside.{Inside}

-- a version and a key, as the index has them
abbrev pub Entry : Type 0
Entry = Reverse ℕ × ℕ

abbrev pub entry_of : ℕ → ℕ → Entry
entry_of t k = (record { 0 = t }, k)

-- entries in falling order of the version, then in rising order of the key
abbrev pub entry_cmp : Entry → Entry → Ordering
entry_cmp x y = ordering_then (nat_cmp y.0.0 x.0.0) (nat_cmp x.1 y.1)

-- the key of an entry
abbrev pub key_of : Entry → ℕ
key_of entry = entry.1

-- the index has the version and the key of each row and no others, and keys are in range
pub record IsIndexed (c : Inside) : Type 0 where
  pub ordered : sorted.IsOrdered entry_cmp c.index
  pub indexed : (k t : ℕ) → sorted.contains entry_cmp c.index (entry_of t k) ≡ is_some (looked c.rows k t)
  pub ranged : (k t : ℕ) → sorted.contains entry_cmp c.index (entry_of t k) ≡ true → k < 4096
