pub mod Service
pub mod Promise
