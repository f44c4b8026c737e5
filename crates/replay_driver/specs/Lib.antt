pub mod Drafts
pub mod GoingOn
pub mod Playing
pub mod Storm
