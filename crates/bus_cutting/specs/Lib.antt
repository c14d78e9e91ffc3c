pub mod Opens
pub mod Converse
pub mod Draws
pub mod Calls
pub mod Laws
pub mod Rows
