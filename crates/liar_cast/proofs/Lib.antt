pub mod LiesLemmas
pub mod Votes
