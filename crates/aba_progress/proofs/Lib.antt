pub mod Running
pub mod Filled
pub mod Marked
pub mod Rounds
pub mod Coins
pub mod Stopping
pub mod Theorems
