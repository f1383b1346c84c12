pub mod Orders
pub mod Fronts
pub mod Noted
pub mod Backs
pub mod Leavings
pub mod Marked
