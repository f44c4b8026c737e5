-- How the table's map and its set of places hold what contracts see.
use Rattle.std.specs.Prelude.{◌≤◌, ◌+◌, if◌then◌else◌}
use Rattle.indexmap.specs.IndexMap.{spare}
use Rattle.indexmap.specs.IndexSet.{index_set_len}
use Rattle.system_parts.specs.Pairs.{Pairs, Places}
use Rattle.commit_table.specs.Entries.{pairs_from, places_from}
use Rattle.commit_table.specs.declared.Table.TheInside.{Inside}

abbrev pub pairs_of : Inside → Pairs
pairs_of t = pairs_from t.pairs.entries

abbrev pub places_of : Inside → Places
places_of t = places_from t.places.keys

-- the map has room for every transaction with a place, and for one mark more where it says so
abbrev pub HasRoom : Inside → Type 0
HasRoom t = index_set_len t.places + (if t.has_room then 1 else 0) ≤ spare t.pairs
