-- The definitions that the contracts of the cells cite.
pub use Rattle.system_parts.specs.Rows.{Row, put_row, fetched, front_of, looked, with_shadow, without_bare, keys_of_version, AreFalling, AreOrdered, AreUpto, HasOnly, IsBare}
pub use Rattle.system_parts.specs.StoreCalls.{IsOneCall, UnlessNoMemory, OnNoMemory}
pub use Rattle.port_io.specs.Fates.{fated, Counts}
pub use Rattle.port_io.specs.Faults.{Risen}
