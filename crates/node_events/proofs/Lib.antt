pub mod Places
mod KeptItems
mod Losses
mod Placed
mod Replies
mod BothSets
