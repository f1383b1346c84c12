pub mod Closers
pub mod Shown
pub mod Spent
