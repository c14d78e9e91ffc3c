pub mod Cuts
pub mod Readers
pub mod Rereads
pub mod Peers
pub mod EventLines
pub mod SessionLines
pub mod Runs
