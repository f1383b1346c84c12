pub mod Blocks
pub mod Waiting
pub mod Places
pub mod Directory
pub mod Delivering
pub mod Playing
pub mod Telling
pub mod Running
