pub mod Sums
pub mod Products
pub mod Powers
pub mod Inverses
pub mod Polynomials
pub mod Roots
pub mod Interpolation
pub mod Backward
