pub mod Marks
pub mod Settled
pub mod Codewords
pub mod Totality
pub mod Sender
pub mod Theorems
