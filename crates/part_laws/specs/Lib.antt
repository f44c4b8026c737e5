pub mod Local
pub mod Reached
pub mod Worked
