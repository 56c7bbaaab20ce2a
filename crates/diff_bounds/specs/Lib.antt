pub mod Bounds
pub mod Verdict
pub mod Pressing
pub mod Search
