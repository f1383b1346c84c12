pub mod Checked
pub mod Names
pub mod Tests
pub mod Adding
