mod FatesAhead
mod TakeFlags
pub mod Clocks
pub mod Making
pub mod Rooms
pub mod Playable
pub mod Fitting
