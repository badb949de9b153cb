pub mod Bursts
pub mod Lines
pub mod Parts
pub mod Tallies
