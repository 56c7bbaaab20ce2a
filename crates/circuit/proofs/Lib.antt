pub mod Levels
pub mod Settling
pub mod Histories
pub mod Distinct
pub mod Numbered
pub mod Order
pub mod Tested
