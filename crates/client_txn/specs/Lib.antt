pub use Rattle.system_parts.specs.SessionSteps
pub mod Remembering
