pub mod Faults
pub mod Fates
pub mod Ports
pub mod Memory
pub mod Planned
