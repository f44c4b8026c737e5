pub mod Done
pub mod Going
