pub mod Rounds
pub mod Numbering
pub mod Agreeing
pub mod Edging
pub mod Cycles
pub mod Skipping
