pub mod Pool
pub mod Marks
pub mod Standings
pub mod Calls
