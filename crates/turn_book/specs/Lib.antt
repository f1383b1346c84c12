pub mod Entries
pub mod SeatState
pub mod Kept
pub mod Told
