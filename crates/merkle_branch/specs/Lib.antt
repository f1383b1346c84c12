pub mod Digests
pub mod Branches
pub mod Shapes
