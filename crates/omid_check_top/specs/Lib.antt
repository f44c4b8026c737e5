pub mod Words
pub mod Subject
pub mod Levels
pub mod Findings
pub mod Verdicts
pub mod Commands
