pub mod Closing
pub mod Laws
pub mod Linear
pub mod Words
