pub mod Latency
pub mod Worked
