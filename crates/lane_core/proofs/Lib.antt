pub mod Results
pub mod Parts
pub mod Epoch
pub mod Lanes
pub mod Owing
