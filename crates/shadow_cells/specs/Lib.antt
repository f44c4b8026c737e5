pub mod Ways
pub use Rattle.system_parts.specs.Completion
