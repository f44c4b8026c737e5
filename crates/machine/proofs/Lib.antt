mod Names
pub mod LookedUp
mod GoneClients
mod ToldOnce
pub mod Refusals
mod StandingAnswers
mod PlainEvents
mod StoreAsked
mod RecordEvents
mod StoreEvents
mod KindsKept
mod KindsAsked
pub mod PartsKept
mod GoneStays
mod StopsOfPosts
mod StopsOfEvents
pub mod StopsKept
mod PlainReads
mod WorkedPaths
mod WorkedReading
mod TableMoves
mod WorkedTables
mod WorkedRecalls
pub mod Orders
pub mod Lookups
pub mod MarksTold
pub mod Outcome
mod Dues
pub mod Inversions
