-- The definitions that the contracts of the events cite.
pub use Rattle.machine.specs.Events
pub use Rattle.event_parts.specs.Made
pub use Rattle.event_parts.specs.Working
pub mod Meeting
pub use Rattle.machine.specs.Clients
pub use Rattle.event_parts.specs.Waiting
