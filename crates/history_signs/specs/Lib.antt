pub mod Lanes
pub mod Bars
pub mod Chosen
pub mod Shown
pub mod Signs
pub mod Earlier
