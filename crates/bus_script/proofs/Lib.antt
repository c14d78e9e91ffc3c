pub mod Numbers
pub mod Ends
pub mod Loops
pub mod Lines
pub mod Shape
pub mod Laws
pub mod Few
pub mod Texts
