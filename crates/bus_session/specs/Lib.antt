pub mod Parts
pub mod Counts
pub mod Outcomes
pub mod Dialling
pub mod Alone
pub mod Laws
