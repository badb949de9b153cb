pub mod Arguments
pub mod Hex
