pub mod Late
pub mod Agreement
pub mod Causality
pub mod Invariance
pub mod Numbers
pub mod Premised
