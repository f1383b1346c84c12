pub mod Least
pub mod Same
pub mod Places
pub mod Said
pub mod Against
pub mod Liars
