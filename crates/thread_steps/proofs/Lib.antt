pub mod CaughtUp
mod Few
