pub mod Words
pub mod Expressions
pub mod FormReading
pub mod Opening
pub mod OneSpelling
