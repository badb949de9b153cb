pub mod AgreeingWords
pub mod AllRows
pub mod ClosedRows
pub mod MendedRows
