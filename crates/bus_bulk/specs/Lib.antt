pub mod Kinds
pub mod Replies
pub mod Bulk
pub mod Summary
