pub mod Found
pub mod Gathered
pub mod Joined
pub mod Subject
pub mod Tables
