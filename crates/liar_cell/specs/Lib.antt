pub mod HeldLiar
pub mod LiarTurns
