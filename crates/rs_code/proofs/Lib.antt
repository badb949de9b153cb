pub mod Places
pub mod Rows
pub mod Horner
pub mod Words
pub mod Completions
pub mod LawsHold
pub mod Fronts
