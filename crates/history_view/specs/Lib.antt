pub mod Words
pub mod Glyphs
pub mod Marks
pub mod Style
pub mod Page
