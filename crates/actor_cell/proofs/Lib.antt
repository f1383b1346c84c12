pub mod Places
pub mod Puts
pub mod Deals
pub mod Mailing
pub mod Hearings
pub mod Sendings
pub mod Turnings
pub mod Marking
