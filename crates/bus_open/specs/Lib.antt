pub mod Streams
pub mod Memory
pub mod Whole
pub mod Commands
pub mod Run
