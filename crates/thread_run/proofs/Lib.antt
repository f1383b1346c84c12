pub mod Leavings
pub mod Outs
pub mod Sends
