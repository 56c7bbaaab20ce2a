pub mod Text
pub mod Grammar
pub mod Statements
pub mod Reading
pub mod Judging
pub mod Spelling
