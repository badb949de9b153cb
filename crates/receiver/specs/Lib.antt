pub mod Views
pub mod Parts
pub mod Wakes
