pub mod Heads
pub mod Decided
pub mod Going
