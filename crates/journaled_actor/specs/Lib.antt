pub mod Cores
pub mod Payload
pub mod Kept
pub mod Folding
pub mod Faults
pub mod Going
pub mod Images
