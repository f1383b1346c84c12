pub mod Interleaving
pub mod Ordered
pub mod Passes
pub mod Shares
