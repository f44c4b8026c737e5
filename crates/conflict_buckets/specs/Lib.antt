pub mod Oldest
pub mod Runs
pub mod Sound
pub use Rattle.system_parts.specs.Buckets
