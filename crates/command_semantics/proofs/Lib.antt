mod Names
mod ReadItems
mod MadeOfRecord
mod MadeOfRequests
mod MadeOfSessions
mod MadeOfSteps
mod AllMade
mod ToldTimes
pub mod FaultCounts
mod OneEvent
mod LineClocks
mod PlannedLines
mod AnyOrder
pub mod Holders
mod Clients
pub mod Serving
mod Accepting
mod Deciding
mod Putting
mod Answering
mod Extending
pub mod Working
pub mod Stepping
mod Opening
mod Sweeping
pub mod Driving
mod Doings
mod Lowering
mod AllLower
pub mod Timing
pub mod Ending
mod Plain
pub mod PlainEvents
pub mod Fitting
mod FittingSteps
pub mod AlwaysFit
pub mod OpeningItems
pub mod WorkItems
pub mod Takes
pub mod Walks
pub mod LaterEvents
pub mod OpenedLines
mod OwnItems
pub mod ReadLines
pub mod ReadSteps
pub mod FetchLines
pub mod OwnLines
pub mod LineWalks
pub mod ScriptWalks
