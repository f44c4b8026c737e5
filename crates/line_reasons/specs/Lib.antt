pub mod Wants
pub mod Samples
pub mod TextLines
pub mod Objects
pub mod Reasons
