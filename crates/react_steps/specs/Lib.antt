pub mod Rows
pub mod World
pub mod Machine
pub mod History
pub mod Sights
pub mod Interests
pub mod Accounts
