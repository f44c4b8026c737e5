pub mod Audit
pub mod Commands
pub mod Compaction
pub mod Promise
pub mod Texts
