pub mod Laws
pub mod Actors
pub mod Places
