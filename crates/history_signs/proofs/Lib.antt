mod BarLemmas
mod SignLemmas
