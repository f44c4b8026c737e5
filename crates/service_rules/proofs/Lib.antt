mod Walks
mod WorkedTold
mod WorkedStamps
mod WorkedCopies
mod WorkedOwn
