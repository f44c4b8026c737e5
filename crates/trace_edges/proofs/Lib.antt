pub mod EdgeLemmas
