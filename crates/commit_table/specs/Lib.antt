pub mod Calls
pub mod Entries
pub mod Kept
pub mod Seen
