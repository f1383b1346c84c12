pub mod Agreed
pub mod Backing
pub mod Closed
pub mod Closures
pub mod Common
pub mod Firsts
pub mod Lists
pub mod Prefixes
