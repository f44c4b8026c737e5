pub mod Seen
pub mod KeyLists
pub mod Index
pub mod Calls
pub mod AtRest
pub mod Shadow
