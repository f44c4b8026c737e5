pub mod Logs
pub mod Merging
pub mod Merged
pub mod Orders
pub mod Locks
pub mod Makes
pub mod Seen
