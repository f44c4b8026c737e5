mod Names
pub mod PutBack
pub mod PartsTouched
pub mod Fates
pub mod StoreCallsMade
pub mod StaysReached
pub mod RequestHolders
mod PostTerms
mod AtRest
mod Needs
mod RequestMoves
mod NodeMoves
mod OneStart
mod RoomKept
mod RoomThere
pub mod RoomMoves
