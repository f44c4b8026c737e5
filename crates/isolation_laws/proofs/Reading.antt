-- Reads under way, and the answers of the past.
pub mod ReadersRely
pub mod ClientsReading
pub mod ReadsStay
pub mod FirstReads
pub mod CoveredVersions
pub mod SeesFetched
pub mod SeesPassed
pub mod ReadTurns
pub mod ReadsLonger
pub mod ReadsOfReads
pub mod KeptReads
pub mod ReadSetsStay
pub mod ReadSetsOfTurns
pub mod ReadSetsOfRequests
pub mod ReadSetsKept
pub mod ReadsKept
