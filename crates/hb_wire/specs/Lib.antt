pub mod Votes
pub mod Addresses
pub mod Reading
pub mod Lists
pub mod Views
pub mod Glances
pub mod Batches
pub mod Echoes
