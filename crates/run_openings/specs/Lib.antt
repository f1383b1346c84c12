pub mod Opening
pub mod Seating
