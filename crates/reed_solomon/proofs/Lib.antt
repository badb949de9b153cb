pub mod Counting
pub mod Turns
pub mod Values
pub mod Solved
pub mod Mending
pub mod Spreading
