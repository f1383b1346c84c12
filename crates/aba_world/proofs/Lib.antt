pub mod Votes
pub mod Coins
pub mod Stood
pub mod Rounds
pub mod Theorems
pub mod Tables
pub mod Exact
