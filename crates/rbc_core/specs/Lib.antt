pub mod Checking
pub mod RootViews
pub mod Roots
pub mod Tables
pub mod Due
pub mod Broadcast
pub mod RootVotes
