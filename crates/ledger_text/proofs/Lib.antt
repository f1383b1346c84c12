pub mod Among
pub mod Batches
pub mod Chains
pub mod Order
pub mod Questions
pub mod Remembered
