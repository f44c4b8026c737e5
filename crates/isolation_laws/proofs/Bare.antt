-- For grant_laws too.
-- Cells without a shadow, and whose they are.
pub mod BareClients
pub mod BareRows
pub mod BareKept
pub mod FewBare
