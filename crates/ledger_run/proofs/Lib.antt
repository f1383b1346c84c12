pub mod Plans
pub mod Names
pub mod Ready
pub mod Places
pub mod Steps
pub mod Reports
pub mod Gathered
pub mod Voices
