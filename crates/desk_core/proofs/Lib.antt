pub mod Owing
pub mod Keeping
pub mod Standing
pub mod Pooling
