pub mod Places
pub mod Faults
pub mod Window
pub mod Reached
pub mod Walk
