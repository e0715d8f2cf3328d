pub mod Lost
pub mod Parts
