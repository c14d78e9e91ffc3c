pub mod Growing
pub mod Spelled
pub mod Added
pub mod LineWords
pub mod Sizes
pub mod Whole
