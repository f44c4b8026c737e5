pub mod Owed
pub mod Served
pub mod Follows
pub mod Laws
pub mod Worked
