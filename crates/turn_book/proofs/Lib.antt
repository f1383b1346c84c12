pub mod Put
pub mod Lists
pub mod Views
pub mod Turning
pub mod Seating
pub mod Showing
