pub mod Zips
pub mod Readings
pub mod Players
pub mod Catches
pub mod Settles
pub mod Lists
pub mod Lackings
