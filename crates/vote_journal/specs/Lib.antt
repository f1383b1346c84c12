pub mod Text
pub mod Faults
pub mod Runs
pub mod Steps
pub mod Usable
pub mod Calls
pub mod Entries
