pub mod Numbering
pub mod SharedSeats
pub mod SharedLaws
