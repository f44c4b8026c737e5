mod RowLemmas
mod Steps
mod Passes
