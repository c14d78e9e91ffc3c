-- What holds of these definitions, for proofs of this crate and of those above it.
pub mod Texts
pub mod Users
