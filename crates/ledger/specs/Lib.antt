pub mod Calls
pub mod Ledgers
pub mod Runs
pub mod Steps
pub mod Found
pub mod Law
pub mod ShutOut
pub mod Witness
