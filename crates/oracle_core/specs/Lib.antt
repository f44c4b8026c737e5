pub use Rattle.system_parts.specs.Instance
pub use Rattle.system_parts.specs.InstanceSteps
