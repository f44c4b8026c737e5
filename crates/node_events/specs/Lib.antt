-- The definitions that the contracts of the events cite.
pub use Rattle.machine.specs.Effect
pub use Rattle.machine.specs.Events
pub use Rattle.event_parts.specs.Made
pub use Rattle.event_parts.specs.Waiting
pub use Rattle.event_parts.specs.Served
pub mod Against
pub mod Reserved
pub mod Ready
