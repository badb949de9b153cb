pub mod Cells
pub mod Lines
