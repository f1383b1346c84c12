pub mod Among
pub mod ByBytes
pub mod ByMark
pub mod Words
pub mod Tables
pub mod Told
pub mod Tied
