pub mod Streams
pub mod Window
pub mod Steps
pub mod Printing
pub mod Answers
