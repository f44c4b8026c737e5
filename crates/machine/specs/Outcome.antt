-- All that an event comes to, each outcome a record of what was the case.
pub mod OutcomesOfRecord
pub mod OutcomesOfRequests
pub mod OutcomesOfStamps
pub mod OutcomesOfSessions
pub mod OutcomesOfWork
pub mod OutcomesOfSweeps
pub mod OutcomesOfPlacings
pub mod Outcomes
pub mod Inverted
