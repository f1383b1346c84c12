pub mod Ends
pub mod Hearings
pub mod Lanes
