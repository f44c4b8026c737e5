pub mod Closings
pub mod Silences
pub mod Overs
pub mod Completions
pub mod SessionTransitions
pub mod Ends
pub mod Laws
