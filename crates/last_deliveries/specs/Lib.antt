pub mod Settling
pub mod Catching
pub mod Listing
