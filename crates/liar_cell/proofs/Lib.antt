pub mod Speaking
pub mod LiarTurnings
