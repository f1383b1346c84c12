pub mod Completed
pub mod Epochs
pub mod Spared
