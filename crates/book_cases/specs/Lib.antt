pub mod Seating
pub mod Posting
pub mod Run
