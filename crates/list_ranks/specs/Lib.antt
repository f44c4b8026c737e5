pub mod Hints
pub mod Certified
pub mod Wrong
pub mod Told
