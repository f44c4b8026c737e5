-- The definitions that the contracts of the table cite.
pub use Rattle.system_parts.specs.Pairs.{Pairs, Places, mark_of, put_answer, put_pair, without_committed}
pub use Rattle.system_parts.specs.StoreCalls.{AsksOnce, IsOneCall, UnlessNoMemory, OnNoMemory}
pub use Rattle.port_io.specs.Fates.{fated}
