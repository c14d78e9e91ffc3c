pub mod Queues
pub mod Plays
pub mod Faultless
pub mod Lent
pub mod Cursors
pub mod Reading
