pub mod Recalls
pub mod PlacedKept
