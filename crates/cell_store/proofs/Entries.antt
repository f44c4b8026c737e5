-- A row that is put and taken away again where its call fails.
use Rattle.std.proofs.Common.{◌≡◌, ℕ, List, None, refl}
use Rattle.port_io.specs.Fates.{fated}
use Rattle.port_io.specs.declared.weather.Fate.{Fate}
use Rattle.port_io.specs.declared.weather.Fate.TheVariants.{Works, FailsUnchanged, FailsApplied}
use Rattle.system_parts.specs.Rows.{Row, put_row, looked, without_bare}
use Rattle.system_parts.proofs.RowVersions.{without_bare-put_row}

pub kept_entry : (fate : Fate) (rows : List Row) (k t : ℕ) (v : List ℕ) → looked rows k t ≡ None → fated fate (without_bare (put_row rows k t v) k t) (put_row rows k t v) ≡ fated fate rows (put_row rows k t v)
kept_entry Works rows k t v absent = refl
kept_entry FailsUnchanged rows k t v absent = without_bare-put_row rows k t v absent
kept_entry FailsApplied rows k t v absent = refl
