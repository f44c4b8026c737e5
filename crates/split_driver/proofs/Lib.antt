pub mod Following
mod LaterEvents
mod ActorLemmas
mod SettleLemmas
mod SplitScripts
