mod Names
mod Handing
mod Giving
mod Agreement
mod OneMore
mod Filled
mod Directly
mod RecordEvents
mod SweepEvents
mod NotedEvents
pub mod FoundParts
pub mod LentSessions
