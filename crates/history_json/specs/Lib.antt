pub mod Expected
pub mod Members
pub mod Object
pub mod Words
pub mod History
pub mod Json
pub mod Laws
