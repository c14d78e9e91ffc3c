-- What holds of these definitions, for proofs of this crate and of those above it.
pub mod Records
pub mod Armings
pub mod Sources
pub mod Sanity
pub mod Tags
pub mod Timers
pub mod Removals
pub mod Interests
pub mod Faults
pub mod Dials
