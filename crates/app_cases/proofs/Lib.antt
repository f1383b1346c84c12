pub mod Audited
pub mod Running
