pub mod Examples
pub mod RowCases
pub mod FrameCases
pub mod Cases
