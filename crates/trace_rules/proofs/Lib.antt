mod WorkedTraces
pub mod Forced
pub mod Isolates
pub mod Serial
mod Wants
mod Graph
mod Open
mod Lists
mod Overlaps
