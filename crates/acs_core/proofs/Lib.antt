pub mod Firsts
pub mod Noting
pub mod Standing
pub mod Accepting
