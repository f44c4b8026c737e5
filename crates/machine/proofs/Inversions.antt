-- For isolation_laws, cause_laws, command_semantics and grant_laws too.
-- Each event comes to one outcome.
pub mod InversionParts
pub mod InversionOfSessions
pub mod InversionOfFetches
pub mod InversionOfRecord
pub mod InversionOfExtensions
pub mod InversionOfAsks
pub mod FreeVerdicts
pub mod InversionOfRequests
pub mod InversionOfAnswers
pub mod InversionOfCalls
pub mod InversionOfSweeps
pub mod InversionOfSteps
pub mod InversionOfPlacings
pub mod InversionOfWork
pub mod Inversion
pub mod EachOutcome
