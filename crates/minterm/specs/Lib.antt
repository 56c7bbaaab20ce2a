pub mod Minterms
pub mod Steps
