pub mod Exhausted
pub mod Headline
pub mod Faults
pub mod inside
