pub mod Bounds
pub mod Entries
pub mod Fault
pub mod Fields
pub mod Plans
pub mod Reading
