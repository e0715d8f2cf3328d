pub mod Line
pub mod Sections
