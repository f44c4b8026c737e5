pub mod Seen
pub mod Calls
