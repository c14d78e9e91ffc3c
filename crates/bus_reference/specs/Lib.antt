pub mod Views
pub mod Diallings
pub mod Goings
