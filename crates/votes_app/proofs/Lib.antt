mod Breaking
mod Ending
mod LineEnds
mod Lines
mod Moving
mod PostLemmas
mod Puts
mod Whole
