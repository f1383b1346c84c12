pub mod Closing
pub mod Marking
pub mod Numbered
pub mod Shows
pub mod Stuck
