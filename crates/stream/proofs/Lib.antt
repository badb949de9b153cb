pub mod Fronts
pub mod Pieces
pub mod Runs
