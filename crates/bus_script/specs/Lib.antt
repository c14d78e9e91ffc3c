pub mod Reasons
pub mod Words
pub mod Forms
pub mod Script
pub mod Reading
pub mod Shape
pub mod Laws
pub mod Printed
