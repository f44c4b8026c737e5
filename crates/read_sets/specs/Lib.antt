pub mod Crossings
pub mod Index
pub use Rattle.history_book.specs.Serial.{Serial}
pub use Rattle.system_parts.specs.Buckets.{verdict_both}
