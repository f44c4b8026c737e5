-- For isolation_laws, cause_laws and request_completion too.
-- Of items that are quiet, plain or mild, and of the readings of outcomes.
pub mod QuietItems
pub mod PlainItems
pub mod Readings
