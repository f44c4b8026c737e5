pub mod Asking
pub mod Lines
pub mod Marks
pub mod Sending
pub mod Sights
pub mod Waking
