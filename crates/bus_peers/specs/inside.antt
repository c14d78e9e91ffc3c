-- How `open_all` keeps what it promises: relations between code and record.
pub mod RoundEvents
pub mod Shows
pub mod RegisteredVisits
pub mod Due
pub mod Laws
pub mod Closing
pub mod Slots
pub mod Alarms
pub mod Rounds
pub mod SlotFaults
pub mod Failures
