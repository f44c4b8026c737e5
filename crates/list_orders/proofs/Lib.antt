pub mod WriteLemmas
pub mod ListLemmas
pub mod SeesLemmas
pub mod WrongLemmas
mod WorkedLists
