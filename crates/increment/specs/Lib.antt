pub mod Edits
pub mod Touched
