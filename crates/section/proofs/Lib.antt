pub mod Masks
pub mod Halves
pub mod LaidOut
pub mod Alike
pub mod Passed
pub mod Messages
pub mod Writable
pub mod WrittenAgain
