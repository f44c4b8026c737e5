pub mod WorkedHistories
pub mod StampedPairs
pub mod ApartPairs
pub mod FreshPairs
pub mod ReadPairs
pub mod Best
pub mod Judged
pub use Rattle.history_book.specs.Isolation.{Stamped, WasListed}
