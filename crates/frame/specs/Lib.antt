pub mod Fields
pub mod Heads
pub mod Frames
pub mod Sent
pub mod Laws
