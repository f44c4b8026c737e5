pub mod Runs
pub mod Turns
pub use Rattle.system_parts.specs.Asks
pub use Rattle.system_parts.specs.KeyRead
