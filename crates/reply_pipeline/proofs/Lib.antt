mod ReachLemmas
mod PersistLemmas
mod PickLemmas
mod RequestLemmas
mod ReplyLemmas
pub mod OpeningLemmas
pub mod TicketLemmas
pub mod SeatLemmas
