pub mod Lists
pub mod Listings
pub mod Told
pub mod WorkedLists
