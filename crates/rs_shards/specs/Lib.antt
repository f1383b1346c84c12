pub mod Codeword
pub mod Frame
pub mod Column
pub mod Rebuilding
pub mod Completing
