pub mod Codes
pub mod Obeying
