pub mod Refusals
pub mod Rules
