pub mod Seating
pub mod Run
pub mod Making
pub mod Steps
pub mod Further
pub mod Playing
pub mod SoFar
pub mod Through
