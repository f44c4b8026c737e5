pub mod Clues
pub mod Sought
pub mod Showing
pub mod Words
pub mod Decided
