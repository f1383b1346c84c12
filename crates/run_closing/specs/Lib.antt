pub mod Joining
pub mod Returning
pub mod Closing
