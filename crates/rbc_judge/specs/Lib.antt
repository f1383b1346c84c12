pub mod Checked
pub mod Known
pub mod Shown
pub mod Tests
