pub mod Rows
pub mod Outs
