mod OrderLemmas
pub mod StampLemmas
