pub mod Waiting
pub mod Seats
pub mod Carried
pub mod Lawful
pub mod Laws
pub mod Told
pub mod WorkedTurns
