pub mod Plan
pub mod NodePasses
pub mod Passes
pub mod Opening
pub mod Laws
pub mod Places
pub mod Spots
pub mod Halfway
pub use Rattle.queue_passes.specs.Holds
pub use Rattle.request_rule.specs.Rule as RequestRule
pub use Rattle.batch_rule.specs.Rule as BatchRule
pub use Rattle.settled_rule.specs.Rule as SettledRule
