pub mod Among
pub mod Numbers
pub mod Joins
pub mod Histories
pub mod Places
pub mod Whole
