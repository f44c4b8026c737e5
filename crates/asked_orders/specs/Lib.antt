pub mod Joins
pub mod Laid
pub mod Keeps
