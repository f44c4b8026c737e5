pub mod JoinLemmas
pub mod KeepLemmas
