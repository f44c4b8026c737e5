pub mod Stages
pub use Rattle.system_parts.specs.Asks
pub use Rattle.system_parts.specs.Completion
pub use Rattle.system_parts.specs.Resolve
pub use Rattle.system_parts.specs.Sweep
