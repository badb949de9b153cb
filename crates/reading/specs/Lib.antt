pub mod Decisions
pub mod Reading
pub mod Laws
pub mod Stops
