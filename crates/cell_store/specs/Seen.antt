-- A cell store as contracts see it.
use Rattle.std.specs.Prelude.{List}
use Rattle.system_parts.specs.Rows.{Row}

-- the rows, in ascending order of key and version
pub record SeenCells : Type 0 where
  pub rows : List Row
