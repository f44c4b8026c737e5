pub mod ListLemmas
mod LastLemmas
mod ReadLemmas
