pub mod OneFrame
pub mod SectionsRead
pub mod Placed
