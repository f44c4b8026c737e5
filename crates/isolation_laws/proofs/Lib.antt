mod Names
pub mod Pushed
pub mod Requests
pub mod OnceEach
pub mod Owners
mod ComingBelow
pub mod FoundMarks
pub mod Numbers
pub mod Memory
pub mod Stores
mod UnderWay
mod Known
pub mod Bare
mod Reading
pub mod Holding
pub mod Inversions
pub mod AlwaysHolds
