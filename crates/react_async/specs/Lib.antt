pub mod Registered
pub mod Waits
pub mod Operation
pub mod Polls
pub mod Telling
pub mod Timers
