pub mod Numbers
pub mod Accounts
pub mod Rule
