pub mod Stream
pub mod Generated
