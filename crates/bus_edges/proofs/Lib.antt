pub mod Pushes
pub mod Keeping
