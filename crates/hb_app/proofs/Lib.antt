pub mod AuditStatuses
pub mod Comes
pub mod Commands
pub mod Inputs
pub mod Ledgers
pub mod Puts
pub mod Runs
pub mod Statuses
