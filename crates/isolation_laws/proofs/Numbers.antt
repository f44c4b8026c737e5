-- For cause_laws and request_completion too.
-- Stamps, terms and leases.
pub mod NumbersStay
pub mod NumbersMoved
pub mod NumbersOfTakes
pub mod NumbersOfRenewals
pub mod NumbersOfRanges
pub mod NumbersOfDraws
pub mod NewStamps
pub mod NewDraws
pub mod NumbersOfItems
pub mod NumbersKept
pub mod Placings
pub mod NumbersOfAll
