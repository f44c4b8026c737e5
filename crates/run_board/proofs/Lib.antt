mod Names
pub mod Turned
pub mod Silent
pub mod Steady
pub mod Quiet
pub mod TurnMade
mod Kept
pub mod Places
pub mod Sitting
pub mod Stopping
mod Found
mod Ended
mod Servable
mod Since
mod Telling
mod Further
mod Opening
mod Called
mod Here
mod Lacking
mod AllEnded
mod TurnRoom
mod SessionEvents
mod OtherViews
mod PassedOnce
mod OneActor
mod ByIndex
mod Giving
mod SeatedOnce
mod OthersSit
mod Advancing
mod PlayKept
mod Counted
mod Closing
mod SoFar
mod StageSteps
