pub mod Orders
pub mod Passes
pub mod Standing
pub mod Runs
pub mod Code
