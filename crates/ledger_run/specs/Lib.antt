pub mod Cores
pub mod Actors
pub mod Team
pub mod Run
pub mod Voices
