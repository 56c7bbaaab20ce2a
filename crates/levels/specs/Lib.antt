pub mod Levels
pub mod Rows
pub mod Marked
pub mod Flat
pub mod Operands
pub mod Recorded
pub mod Digits
pub mod Code
