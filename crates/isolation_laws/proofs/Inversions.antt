-- For cause_laws and grant_laws too.
-- The facts make the parts of a state fit together, as the outcomes of events ask, and each event keeps it so.
pub mod StepsFitting
pub mod Inversion
pub mod InversionSound
