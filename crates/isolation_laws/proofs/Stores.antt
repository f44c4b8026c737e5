-- For cause_laws too.
-- The cells and the commit table.
pub mod LiveAfter
pub mod Calm
pub mod CellsStay
pub mod CellsMove
pub mod StoreMoves
pub mod StoresStay
pub mod CompletionSteps
pub mod CellsKept
