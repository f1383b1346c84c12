pub mod Deal
pub mod Drawing
pub mod Holding
pub mod Sharing
pub mod Heard
