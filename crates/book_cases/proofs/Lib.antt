pub mod Seatings
pub mod Postings
pub mod Runs
