pub mod Findings
pub mod Kinds
pub mod Breaches
pub mod Concerned
pub mod Told
