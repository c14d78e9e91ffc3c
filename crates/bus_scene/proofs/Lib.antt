pub mod DialLemmas
pub mod FaultLemmas
pub mod PlayLemmas
pub mod QueueLemmas
pub mod WaitLemmas
