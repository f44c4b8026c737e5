-- For cause_laws too.
-- The conflict memory.
pub mod RecordedCommits
pub mod MemoryStays
pub mod MemoryOfDraws
pub mod SerialDraws
pub mod MemoryKept
