pub mod Agreed
pub mod Backing
pub mod Marked
