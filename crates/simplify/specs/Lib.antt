pub mod Laws
pub mod Simplified
pub mod Past
pub mod Outcomes
pub mod Passing
