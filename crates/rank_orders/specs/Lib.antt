pub mod Rise
