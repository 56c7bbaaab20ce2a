pub mod UpToDate
pub mod Shifts
