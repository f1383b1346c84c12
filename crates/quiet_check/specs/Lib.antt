pub mod Inside
pub mod Lanes
pub mod Desks
pub mod Receipts
pub mod Ends
pub mod Finished
