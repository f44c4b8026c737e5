-- What clients remember of other transactions, and the cells that they read.
pub mod TrueCaches
pub mod LearntTruths
pub mod WrittenCells
pub mod KnownKept
