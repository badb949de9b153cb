pub mod Counts
pub mod Codewords
pub mod Laws
pub mod Horner
