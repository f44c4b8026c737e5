-- What the entries of a map and the keys of a set stand for: their order means nothing.
use Rattle.std.specs.Prelude.{ℕ, List}
use Rattle.std.specs.FinMap as map_of
use Rattle.std.specs.FinSet as set_of
use Rattle.stamp_base.specs.declared.stores.Mark.{Mark}
use Rattle.system_parts.specs.Pairs.{Pairs, Places}

abbrev pub pairs_from : List (ℕ × Mark) → Pairs
pairs_from entries = map_of.from_entries entries

abbrev pub places_from : List ℕ → Places
places_from keys = set_of.from_list keys
