pub mod RealTimes
pub mod Kinds
pub mod Datagrams
pub mod Sections
pub mod Rules
pub mod Writing
pub mod Layout
pub mod Laws
