pub mod Scope
pub mod Outcome
pub mod Known
pub mod Joined
pub mod Draft
