mod Waits
mod Refused
mod Timers
pub mod Sources
pub mod Ways
pub mod Calls
