mod Names
mod RecordBounds
pub mod BoundsKept
pub mod RecordCalls
pub mod RequestCalls
pub mod StoreCalls
pub mod StepCalls
mod NodeTransitions
mod RecordedDraws
mod HiddenWaters
pub mod ShownOfRequests
mod ShownOfDecisions
mod HeldRecord
mod ShownOfNodes
mod ShownOfLosses
mod ShownOfPlacings
mod DueIsShown
pub mod SinceWords
mod AskWords
mod RequestsTold
mod RequestsWere
mod NodeTransitionsMute
mod AsksKept
mod PostWords
mod PostItems
mod PostMoves
mod TakenKept
mod VacantKept
mod StopsShown
mod LastsKept
mod ShownAtFirst
pub mod LongerHistories
mod HeldAsks
mod NodeTransitionsOfPlacings
pub mod SilentOutcomes
mod NodeTransitionsDone
mod OpenWords
mod RecordShown
mod HeldCounts
mod OpenAsksKept
mod MarksShown
mod AsBefore
mod ClientsMoved
mod GoneShown
mod PlacingKept
mod ReadsFetched
pub mod AlwaysExplained
