pub mod Members
pub mod Merging
pub mod Runs
pub mod Searches
pub mod Steps
