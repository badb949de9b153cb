pub mod Entries
pub mod Exponents
