pub mod Left
pub mod Texts
