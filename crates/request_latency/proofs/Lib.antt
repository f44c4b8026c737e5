mod Measure
mod NodeEvents
mod OwnEvents
mod ServingEvents
mod OneTurn
mod AllTurns
mod WorkedRun
