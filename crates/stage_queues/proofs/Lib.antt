mod JoinLemmas
pub mod OpeningLemmas
pub mod PlaceLemmas
mod NewLemmas
