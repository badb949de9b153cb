pub mod BareRows
pub mod Settled
