pub mod NumberLemmas
mod Steps
mod Joins
