pub mod Chains
pub mod Lines
pub mod Places
pub mod Seen
pub mod Text
