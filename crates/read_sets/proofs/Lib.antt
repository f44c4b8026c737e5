mod CrossingLemmas
mod WalkLemmas
mod ClearedLemmas
mod SetLemmas
mod IndexLemmas
