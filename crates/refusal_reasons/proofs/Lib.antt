pub mod SeekLemmas
mod PartLemmas
mod WrittenLemmas
mod PlaceLemmas
mod RequestLemmas
mod WordLemmas
mod CommitLemmas
mod NodeLemmas
mod LossLemmas
mod DecidedLemmas
