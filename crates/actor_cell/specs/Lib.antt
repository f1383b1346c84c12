pub mod Marks
pub mod Boxes
pub mod Passes
pub mod Making
pub mod Mail
pub mod Held
pub mod Turning
