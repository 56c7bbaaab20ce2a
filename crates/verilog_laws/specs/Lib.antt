pub mod Sound
pub mod Answers
