pub mod Calm
pub mod Lanes
