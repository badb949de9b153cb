pub mod Solving
pub mod Judging
