pub mod Columns
pub mod Cut
pub mod Sources
