pub mod Cores
pub mod Lane
