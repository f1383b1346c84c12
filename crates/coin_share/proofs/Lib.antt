pub mod Adding
pub mod Deciding
