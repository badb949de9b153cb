pub mod Allowed
pub mod Back
pub mod Laid
pub mod Order
