pub mod Commits
pub mod Indexed
pub mod Suspects
pub mod Marks
pub mod OverlapIndex
pub mod Follows
pub mod Turns
pub mod StampSets
pub mod Sharers
pub mod StampIndex
pub mod AskStarts
pub mod AskIndex
pub use Rattle.history_book.specs.Isolation.{Isolated}
pub use Rattle.isolation_rules.specs.Judged.{IsFirstBroken, IsJudged}
