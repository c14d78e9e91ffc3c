pub mod Seen
pub mod Amounts
