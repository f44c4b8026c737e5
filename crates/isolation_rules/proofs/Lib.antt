mod WorkedHistories
mod WorkedReads
mod WorkedSkew
pub mod AskLemmas
pub mod KeyLemmas
pub mod PlaceLemmas
pub mod StampedLaw
pub mod FreshLaw
pub mod WriteLemmas
mod BestLemmas
pub mod ReadLemmas
pub mod WalkLemmas
