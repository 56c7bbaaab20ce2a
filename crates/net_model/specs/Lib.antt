pub mod Limits
pub mod Formula
pub mod View
pub mod Code
pub mod Rules
pub mod Value
pub mod Text
pub mod Early
