pub mod Names
pub mod Wrongs
pub mod Parts
pub mod Cycle
pub mod Lists
pub mod Verdict
