pub mod Lists
pub mod PutBack
pub mod Tears
pub mod Areas
pub mod Images
pub mod Plans
