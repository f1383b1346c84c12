pub mod Conflicts
pub mod Accused
pub mod Places
