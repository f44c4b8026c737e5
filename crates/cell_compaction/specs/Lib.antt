pub mod Rest
pub mod Laws
pub mod Archives
pub mod Worked
