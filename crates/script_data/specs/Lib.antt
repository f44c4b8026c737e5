pub mod Data
pub mod Sound
pub mod Ticks
