pub mod Tables
pub mod Closing
pub mod Epochs
