pub mod Agreeing
pub mod Beside
pub mod Claims
pub mod Observed
pub mod Standing
