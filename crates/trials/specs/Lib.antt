pub mod Trials
pub mod Searches
