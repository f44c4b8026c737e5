-- What refusals say of the state that they are made in, for the inversion.
pub mod DueItems
pub mod OwnRefusals
pub mod RecordRefusals
pub mod RequestRefusals
pub mod LostRequests
pub mod OwnPlacings
pub mod StepsDue
