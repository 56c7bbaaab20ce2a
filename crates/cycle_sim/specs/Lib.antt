pub mod Standing
pub mod Operations
pub mod Ready
pub mod Code
