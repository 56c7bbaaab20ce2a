pub mod Room
pub mod Causal
pub mod Outputs
pub mod Premises
