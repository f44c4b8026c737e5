-- The shadow of a row.
use Rattle.std.specs.Prelude.{ℕ, List, Option, None, Some}
use Rattle.system_parts.specs.declared.rows.Cell.{Cell}
use Rattle.system_parts.specs.Rows.{Row, looked}

abbrev pub shadow_in : Option Cell → Option ℕ
shadow_in None = None
shadow_in (Some cell) = cell.shadow

-- none where the row of the key and the version is bare, or is not there
abbrev pub shadow_at : List Row → ℕ → ℕ → Option ℕ
shadow_at rows key version = shadow_in (looked rows key version)
