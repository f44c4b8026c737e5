pub mod Runs
pub mod Sights
pub mod Actors
pub mod Splits
pub mod Waits
