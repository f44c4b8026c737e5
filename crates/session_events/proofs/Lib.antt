mod PlacedMarks
mod OwnPlacings
mod SweepSteps
mod WorkSteps
