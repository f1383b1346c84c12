pub mod Shown
pub mod Subset
