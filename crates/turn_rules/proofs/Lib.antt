mod Names
mod OwnEvents
pub mod SeatLists
pub mod StillReading
pub mod OwnSessions
mod WalksOn
mod OwnWalks
pub mod OwnTimes
pub mod OwnTurns
pub mod SeatsOn
mod PassLines
pub mod AimsAlike
mod MadeEvents
pub mod Facts
mod SoFar
pub mod AllSeats
mod Answered
mod PlanTicks
mod OnPlan
mod WholePlan
mod OwnKinds
mod ToldEvents
mod OwnTold
mod QuietTurns
mod StageTold
mod WorkedTurns
