pub mod Causes
pub mod Files
pub mod Shelf
pub mod Sink
pub mod MemShelf
pub mod MemSink
pub mod Streams
pub mod Views
