-- What holds of the definitions, for this crate and those above it.
pub mod Tries
