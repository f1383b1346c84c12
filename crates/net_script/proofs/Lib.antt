pub mod ListsOfLists
pub mod Lying
