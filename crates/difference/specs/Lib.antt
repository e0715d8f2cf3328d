pub mod Document
pub mod Faults
pub mod Result
pub mod Steps
