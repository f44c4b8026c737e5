pub mod Tickets
pub mod Accounts
pub mod Rule
