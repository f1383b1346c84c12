mod Drawn
mod Found
pub mod Sound
mod Whole
