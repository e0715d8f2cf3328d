pub mod Inputs
pub mod Map
pub mod Parts
