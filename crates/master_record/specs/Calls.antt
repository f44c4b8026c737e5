-- The definitions that the contracts of the master record cite.
pub use Rattle.stamp_base.specs.Ranges.{IsWithin, IsStampRange}
pub use Rattle.system_parts.specs.Record.{MasterRecord, Leasing, free_record, take_refused, granted, taken, held_by, is_spent, renew_refused, renewed_until, renewed, extend_refused, extended, unless_some, answered}
pub use Rattle.system_parts.specs.StoreCalls.{AsksOnce}
pub use Rattle.port_io.specs.Fates.{fated, works}
