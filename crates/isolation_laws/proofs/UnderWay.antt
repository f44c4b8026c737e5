-- What sessions and the janitor have under way.
pub mod Works
pub mod ClientWorks
pub mod Settled
pub mod SessionMoves
pub mod UnderWayOfRequests
pub mod UnderWayOfPlacings
pub mod UnderWayOfSessions
pub mod UnderWayOfOutcomes
pub mod UnderWayOfCompletions
pub mod UnderWayOfSweeps
pub mod WritesKept
pub mod UnderWayKept
