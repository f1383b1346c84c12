mod Logs
pub mod Parts
mod Places
pub mod Moves
pub mod Forks
