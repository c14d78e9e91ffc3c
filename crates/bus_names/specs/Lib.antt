pub mod Answers
pub mod BusNames
pub mod Classes
pub mod Decides
pub mod Errors
pub mod Grammar
pub mod Refusals
pub mod ValidNames
