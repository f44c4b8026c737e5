pub mod Told
pub mod Stamps
pub mod OneCopy
pub mod OwnWrites
pub mod Service
