pub mod Kinds
pub mod Lies
