pub mod Seen
pub mod Single
pub mod Activated
pub mod Shifting
pub mod Filling
